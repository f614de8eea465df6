-- What was found with landmarks that the file has is judged, and else the fullest start.
use Rattle.std.proofs.Common.{inl, inr}
use Rattle.ed_calls.proofs.starts.landmarked_or_fullest.Goals as goal

pub returns-in-Some-clause-judged : goal.returns-in-Some-clause-judged
returns-in-Some-clause-judged c = inr (inl (rw c.in-Some.is at c.in_ok-found.ensures.landmarked), c.requires.refused)

pub returns-in-Some-clause-allowed : goal.returns-in-Some-clause-allowed
returns-in-Some-clause-allowed c = let found = rw c.in-Some.is at c.in_ok-found.ensures.landmarked in found.landmarked.widest.allowed
