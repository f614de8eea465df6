-- The chunks before were taken, nothing has failed, and with each chunk fewer bytes are left.
use Rattle.std.proofs.Common.{length}
use Rattle.ed_session.specs.Sinks.{change, NeverFailed}
use Rattle.ed_session.proofs.Taken.{TakenUpTo}
use Rattle.ed_session.proofs.sink.give_pieces.Given as goal

abbrev pub invariant-chunks : goal.invariant-chunks
invariant-chunks g l = record {
  taken : TakenUpTo (g.W.Sink.state l.fn.sink).taken (g.W.Sink.state l.sink).taken l.bytes l.chunks;
  failures : NeverFailed (change (g.W.Sink.state l.fn.sink) (g.W.Sink.state l.sink));
}

abbrev pub decreases-chunks : goal.decreases-chunks
decreases-chunks g l = length l.chunks
