-- the landmarks that are left bring the zone to the same
use Rattle.std.proofs.Common.{◌≡◌, drop}
use Rattle.std.specs.List.{flat_map}
use Rattle.zones.specs.Name.{zero}
use Rattle.landmarks.specs.Starting.{named_below, distances_of, guarded}
use Rattle.landmarks.proofs.starting.guard_chain.Given as goal

abbrev pub invariant-loop-landmark : goal.invariant-loop-landmark
invariant-loop-landmark l =
    guarded (flat_map distances_of (named_below l.before l.left (drop l.landmark-index l.chain))) l.zone ≡
    guarded (flat_map distances_of (named_below zero l.names l.chain)) l.initial.zone
