use Rattle.std.proofs.Common.{◌≡◌, drop}
use Rattle.remarks.specs.Parts.{has_high}
use Rattle.remarks.proofs.parts.has_high.Given as goal

abbrev pub invariant-loop-byte : goal.invariant-loop-byte
invariant-loop-byte l = has_high l.bytes ≡ has_high (drop l.byte-index l.bytes)
