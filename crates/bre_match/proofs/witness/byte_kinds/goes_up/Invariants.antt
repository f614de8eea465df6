use Rattle.std.proofs.Common.{◌≡◌, drop}
use Rattle.bre_match.specs.ByteKinds.{goes_up}
use Rattle.bre_match.proofs.witness.byte_kinds.goes_up.Given as goal

abbrev pub invariant-loop-range : goal.invariant-loop-range
invariant-loop-range l = goes_up (drop l.range-index l.ranges) ≡ goes_up l.ranges
