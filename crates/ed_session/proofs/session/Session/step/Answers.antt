use Rattle.std.proofs.Common.{rules}
use Rattle.ed_session.proofs.Leading.{goes_on, gives_after}
use Rattle.ed_session.proofs.session.Session.step.Goals as goal

pub returns-in-Some : goal.returns-in-Some
returns-in-Some g c =
    let i = c.steps.invariant in
    record {
      given = gives_after _ _ _ c.in-Some.asks i.same c.in-Some.ensures.given;
      started = c.in-Some.ensures.started;
      same_end = search rules;
      work = search rules;
    }

pub steps-preserved : goal.steps-preserved
steps-preserved g c =
    let i = c.steps.invariant in
    let a = c.in_default-advance.ensures.given in
    record {
      same = goes_on _ _ _ i.same a.same;
      told = search rules;
      idle = a.idle;
      started = a.started;
      work = search rules;
    }
