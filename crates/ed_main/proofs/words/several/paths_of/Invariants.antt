-- The names so far were put in their order.
use Rattle.std.proofs.Common.{◌≡◌, map, take}
use Rattle.ed_main.proofs.words.several.paths_of.Given as goal

abbrev pub invariant-loop-name : goal.invariant-loop-name
invariant-loop-name l = l.paths ≡ map (λ text. text.now) (take l.name-index l.names)
