-- The blocks that were passed are counted.
use Rattle.std.proofs.Common.{◌≡◌, ◌≤◌, ◌-◌, count_by, length, take}
use Rattle.memchr.specs.Find.{is_byte}
use Rattle.ed_base.specs.Lines.{newline}
use Rattle.ed_base.proofs.newlines.count_newlines.Given as goal

abbrev pub invariant-steps : goal.invariant-steps
invariant-steps l = record {
  counted : l.count ≡ count_by (is_byte newline) (take l.place l.bytes);
  few : l.count ≤ l.place;
  place : l.place ≤ length l.bytes;
}

abbrev pub decreases-steps : goal.decreases-steps
decreases-steps l = length l.bytes - l.place
