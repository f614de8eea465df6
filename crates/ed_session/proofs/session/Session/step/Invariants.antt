-- Steps were done without output.
use Rattle.std.proofs.Common.{◌≡◌, ◌≤◌, [], true, false}
use Rattle.ed_session.specs.Sessions.{is_waiting, is_started}
use Rattle.ed_session.specs.Calls.{GoesOn}
use Rattle.ed_session.specs.Work.{work}
use Rattle.ed_session.proofs.session.Session.step.Given as goal

abbrev pub invariant-steps : goal.invariant-steps
invariant-steps g l = record {
  same : GoesOn l.fn.self [] [] [] l.self;
  told : l.fn.self.told ≡ true → l.self ≡ l.fn.self;
  idle : is_waiting l.self.phase ≡ false;
  started : is_started l.self.phase ≡ true;
  work : work l.self ≤ work l.fn.self;
}

abbrev pub decreases-steps : goal.decreases-steps
decreases-steps g l = work l.self
