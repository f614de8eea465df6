-- The texts that were passed stand after the first one, each after what stands between.
use Rattle.std.proofs.Common.{◌≡◌, ◌++◌, map, take, string_bytes}
use Rattle.std.specs.List.{flat_map}
use Rattle.hints.proofs.words.joined.Given as goal

abbrev pub invariant-loop-text : goal.invariant-loop-text
invariant-loop-text l =
    string_bytes l.all ≡ string_bytes l.initial.all ++ flat_map (λ next. l.between ++ next) (map (λ text. string_bytes text) (take l.text-index l.others))
