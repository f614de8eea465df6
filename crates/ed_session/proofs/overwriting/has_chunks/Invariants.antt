-- The file has the bytes that were gone through, and with each chunk fewer are left.
use Rattle.std.proofs.Common.{◌≡◌, ◌+◌, length}
use Rattle.ed_session.proofs.Overwritten.{WrittenUpTo}
use Rattle.ed_session.proofs.overwriting.has_chunks.Given as goal

abbrev pub invariant-chunks : goal.invariant-chunks
invariant-chunks g l = record {
  so_far : WrittenUpTo (g.F.FilePlaces.state l.fn.file) (g.F.FilePlaces.state l.fn.file) 0 l.place l.fn.chunks l.chunks;
  same : g.F.FilePlaces.state l.file ≡ g.F.FilePlaces.state l.fn.file;
  in_range : l.place + length l.chunks ≡ length l.fn.chunks;
}

abbrev pub decreases-chunks : goal.decreases-chunks
decreases-chunks g l = length l.chunks
