use Rattle.std.proofs.Common.{ℕ, ◌<◌, ◌≤◌, length}
use Rattle.bre_match.specs.ByteKinds.{StandFor}
use Rattle.bre_match.proofs.witness.byte_kinds.take_bytes.Given as goal

abbrev pub invariant-loop-byte : goal.invariant-loop-byte
invariant-loop-byte l =
    (length l.fn.bytes.items ≤ length l.bytes.items)
    × ((number : ℕ) → l.first ≤ number → number < l.byte → StandFor l.answers l.bytes.items number)
