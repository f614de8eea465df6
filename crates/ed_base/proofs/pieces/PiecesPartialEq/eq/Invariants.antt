-- The bytes that are left differ where the whole ones do.
use Rattle.std.proofs.Common.{◌≡◌, nat_eq, length}
use Rattle.std.specs.Cmp.Lexicographic.{pointwise}
use Rattle.ed_base.proofs.pieces.PiecesPartialEq.eq.Given as goal

abbrev pub invariant-loop-this : goal.invariant-loop-this
invariant-loop-this l = pointwise nat_eq l.these l.those ≡ pointwise nat_eq l.self l.other

abbrev pub decreases-loop-this : goal.decreases-loop-this
decreases-loop-this l = length l.these
