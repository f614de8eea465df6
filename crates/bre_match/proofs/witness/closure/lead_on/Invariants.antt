use Rattle.std.proofs.Common.{◌≤◌, length}
use Rattle.bre_match.specs.ClosedSets.{BytesLeadOn, StayKnown, place_after}
use Rattle.bre_match.proofs.witness.closure.lead_on.Given as goal

abbrev pub invariant-loop-at : goal.invariant-loop-at
invariant-loop-at l =
    StayKnown l.fn.known.items l.known.items
    × (length l.fn.known.items ≤ 256 → length l.known.items ≤ 256)
    × BytesLeadOn l.answers l.kinds l.known.items (place_after l.from) l.watches l.at
