use Rattle.bre_match.proofs.listed.has_alike.Given as goal

abbrev pub decreases-loop-after : goal.decreases-loop-after
decreases-loop-after l = l.after

abbrev pub invariant-loop-after : goal.invariant-loop-after
invariant-loop-after l = Unit {0}
