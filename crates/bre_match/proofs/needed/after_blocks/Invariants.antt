use Rattle.std.proofs.Common.{◌≡◌, ◌-◌, ◌∷◌, [], false, drop, length}
use Rattle.bre_match.specs.Needs.{after_first}
use Rattle.bre_match.proofs.needed.after_blocks.Given as goal

abbrev pub invariant-skipped : goal.invariant-skipped
invariant-skipped l = after_first false ((l.low, l.high) ∷ []) l.at (drop l.at l.text) ≡ after_first false ((l.low, l.high) ∷ []) l.from (drop l.from l.text)

abbrev pub decreases-skipped : goal.decreases-skipped
decreases-skipped l = length l.text - l.at
