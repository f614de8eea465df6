-- The offsets that are left, after the sum so far, are all of them. Each took a byte at least, so the sum is far from the ends of its type.
use Rattle.std.proofs.Common.{◌-◌, ◌*◌, ◌≤◌, length, pos, neg_ℤ, ◌≤ℤ◌}
use Rattle.ed_syntax.specs.reading.Tokens.{offsets}
use Rattle.ed_syntax.proofs.reader.OffsetSteps.{OffsetsLeft}
use Rattle.ed_syntax.proofs.offsets.offsets.Given as goal

abbrev pub invariant-offsets : goal.invariant-offsets
invariant-offsets l = record {
  left : OffsetsLeft l.left l.sum (offsets (length l.bytes) l.bytes);
  shorter : length l.left ≤ length l.bytes;
  low : neg_ℤ (pos (999999999 * (length l.bytes - length l.left))) ≤ℤ l.sum;
  high : l.sum ≤ℤ pos (999999999 * (length l.bytes - length l.left));
}

abbrev pub decreases-offsets : goal.decreases-offsets
decreases-offsets l = length l.left
