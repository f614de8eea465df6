use Rattle.std.proofs.Common.{◌-◌, ◌≤◌, length}
use Rattle.bre_match.specs.Watches.{first_watches}
use Rattle.bre_match.specs.ClosedSets.{KnownLeadOn, LeadOn}
use Rattle.bre_match.proofs.witness.closure.search.Given as goal

abbrev pub invariant-loop-number : goal.invariant-loop-number
invariant-loop-number l =
    LeadOn l.answers l.kinds l.known.items 0 (first_watches l.answers)
    × KnownLeadOn l.answers l.kinds l.known.items l.number
    × (length l.known.items ≤ 256)

abbrev pub decreases-loop-number : goal.decreases-loop-number
decreases-loop-number l = 256 - l.number
