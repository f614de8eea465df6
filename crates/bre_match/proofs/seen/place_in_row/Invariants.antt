use Rattle.bre_match.proofs.seen.place_in_row.Given as goal

abbrev pub decreases-loop-after : goal.decreases-loop-after
decreases-loop-after l = l.after

abbrev pub invariant-loop-after : goal.invariant-loop-after
invariant-loop-after l = Unit {0}
