-- A front of the bytes was written, and with each chunk fewer are left.
use Rattle.std.proofs.Common.{◌≡◌, ◌+◌, ◌≤◌, length, take}
use Rattle.ed_session.proofs.Overwritten.{WrittenUpTo}
use Rattle.ed_session.proofs.overwriting.write_chunks.Given as goal

abbrev pub invariant-chunks : goal.invariant-chunks
invariant-chunks g l = record {
  so_far : WrittenUpTo (g.F.FilePlaces.state l.fn.file) (g.F.FilePlaces.state l.file) l.place l.at (take l.count l.fn.chunks) (take l.more l.chunks);
  enough : l.more ≤ length l.chunks;
  in_range : l.at + l.more ≡ l.place + l.count;
}

abbrev pub decreases-chunks : goal.decreases-chunks
decreases-chunks g l = length l.chunks
