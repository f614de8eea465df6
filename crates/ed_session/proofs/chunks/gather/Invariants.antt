-- What is gathered and what is left are all bytes, and with each piece fewer are left.
use Rattle.std.proofs.Common.{◌≡◌, ◌<◌, ◌++◌, length, vec_len}
use Rattle.ed_session.specs.Chunks.{left}
use Rattle.ed_session.proofs.chunks.gather.Given as goal

abbrev pub invariant-pieces : goal.invariant-pieces
invariant-pieces l = record {
  whole : l.first ++ l.fn.walk ≡ l.room.items ++ left l.next l.walk;
  some : 0 < vec_len l.room;
}

abbrev pub decreases-pieces : goal.decreases-pieces
decreases-pieces l = length (left l.next l.walk)
