-- What was proposed is judged, and else the fullest start.
use Rattle.std.proofs.Common.{inl}
use Rattle.ed_calls.proofs.starts.proposed_from.Goals as goal

pub returns-in-Some-clause-judged : goal.returns-in-Some-clause-judged
returns-in-Some-clause-judged c = inl (rw c.in-Some.is at c.in_ok-found.ensures.like)
