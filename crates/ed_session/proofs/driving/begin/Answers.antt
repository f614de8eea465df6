use Rattle.ed_syntax.specs.declared.request.Request.TheVariants as request
use Rattle.ed_session.proofs.Logs.{read_raises}
use Rattle.ed_session.proofs.Rounds.{performs_answered, starts_at}
use Rattle.ed_session.proofs.driving.begin.Goals as goal

pub returns-in-Ok : goal.returns-in-Ok
returns-in-Ok g c =
    let s = c.args.session.now in
    let t = c.start-in-Ok.new.self in
    let e = c.start-in-Ok.ensures in
    let path = c.in-Some.path.now in
    let a = c.in-Ok.answer in
    record {
      begun = performs_answered s t (request.Read path) a _ _ _ _ c.in-Ok.ensures.logged (starts_at path s a t c.in-Some.ensures.given e.given)
          (read_raises path a _ _ c.in-Ok.ensures.refused c.in-Ok.ensures.not_done) c.in-Ok.ensures.rises e.idle e.started;
    }
