use Rattle.bre_match.proofs.Pieces.{Copied}
use Rattle.bre_match.proofs.backwards.piece_of.Given as goal

abbrev pub invariant-loop-at : goal.invariant-loop-at
invariant-loop-at l = Copied l.text l.low l.high l.at l.piece.items

abbrev pub decreases-loop-at : goal.decreases-loop-at
decreases-loop-at l = l.at
