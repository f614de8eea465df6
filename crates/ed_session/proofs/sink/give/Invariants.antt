-- The first bytes were taken, and nothing has failed.
use Rattle.std.proofs.Common.{length, take, ◌-◌, ◌≤◌}
use Rattle.ed_session.specs.Sinks.{change, Took, NeverFailed}
use Rattle.ed_session.proofs.sink.give.Given as goal

abbrev pub invariant-pieces : goal.invariant-pieces
invariant-pieces g l = record {
  within : l.done ≤ length l.bytes;
  taken : Took (change (g.W.Sink.state l.fn.sink) (g.W.Sink.state l.sink)) (take l.done l.bytes);
  failures : NeverFailed (change (g.W.Sink.state l.fn.sink) (g.W.Sink.state l.sink));
}

abbrev pub decreases-pieces : goal.decreases-pieces
decreases-pieces g l = length l.bytes - l.done
