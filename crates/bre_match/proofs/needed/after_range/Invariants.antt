use Rattle.std.proofs.Common.{◌≡◌, ◌∷◌, [], false, drop}
use Rattle.bre_match.specs.Needs.{after_first}
use Rattle.bre_match.proofs.needed.after_range.Given as goal

abbrev pub invariant-loop-at : goal.invariant-loop-at
invariant-loop-at l = after_first false ((l.low, l.high) ∷ []) l.from (drop l.from l.text) ≡ after_first false ((l.low, l.high) ∷ []) l.at (drop l.at l.text)
