-- The run was driven so far.
use Rattle.std.proofs.Common.{◌≡◌, ◌≤◌, ◌++◌, true, false}
use Rattle.ed_session.specs.Sessions.{is_waiting, is_started}
use Rattle.ed_session.specs.Drives.{added}
use Rattle.ed_session.specs.Sinks.{change, NeverFailed}
use Rattle.ed_session.specs.Rounds.{Driven, Raises}
use Rattle.ed_session.specs.Work.{work}
use Rattle.ed_session.proofs.driving.drive.Given as goal

abbrev pub invariant-rounds : goal.invariant-rounds
invariant-rounds g l =
    let logged = g.O.Outside.log in
    let refusals = g.O.Outside.failures in
    let more = added (logged l.fn.outside) (logged l.outside) in
    let sink = change (g.W.Sink.state l.fn.sink) (g.W.Sink.state l.sink) in
    record {
      log : logged l.outside ≡ logged l.fn.outside ++ more;
      driven : Driven l.fn.session more sink l.session;
      raises : Raises more (refusals l.fn.outside) (refusals l.outside);
      rises : refusals l.fn.outside ≤ refusals l.outside;
      idle : is_waiting l.session.phase ≡ false;
      started : is_started l.session.phase ≡ true;
      count : NeverFailed sink;
    }

abbrev pub decreases-rounds : goal.decreases-rounds
decreases-rounds g l = work l.session
