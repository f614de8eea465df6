use Rattle.std.proofs.Common.{◌≡◌, drop, map}
use Rattle.ed_main.specs.Words.{are_paths}
use Rattle.ed_main.proofs.words.several.are_paths.Given as goal

-- the words so far may name files
abbrev pub invariant-loop-name : goal.invariant-loop-name
invariant-loop-name l = are_paths (map (λ text. text.now) l.names) ≡ are_paths (map (λ text. text.now) (drop l.name-index l.names))
