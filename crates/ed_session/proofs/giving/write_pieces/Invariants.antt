-- The chunks before were written, and with each fewer bytes are left.
use Rattle.std.proofs.Common.{length}
use Rattle.ed_session.proofs.Taken.{TakenUpTo}
use Rattle.ed_session.proofs.giving.write_pieces.Given as goal

abbrev pub invariant-chunks : goal.invariant-chunks
invariant-chunks g l = TakenUpTo (g.W.Write.contents l.fn.writer) (g.W.Write.contents l.writer) l.bytes l.chunks

abbrev pub decreases-chunks : goal.decreases-chunks
decreases-chunks g l = length l.chunks
