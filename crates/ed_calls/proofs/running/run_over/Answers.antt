use Rattle.ed_syntax.specs.PublicScript.{script_value}
use Rattle.ed_calls.proofs.Joining.{starts_at, runs_over, file_refused, output_there}
use Rattle.ed_calls.proofs.running.run_over.Goals as goal

pub returns-clause-ran : goal.returns-clause-ran
returns-clause-ran g c =
    let s = c.in_ok-session.ensures in
    runs_over c.cut_runs_write_a_front.ensures.after (script_value c.args.script) c.args.options c.args.start c.in_ok-session.session c.start.new.self _ _ _ s.rest
    s.value (starts_at (script_value c.args.script) c.args.options _ _ c.args.start s.value c.start.ensures.given) c.drive-end.ensures.run

pub returns-clause-file_refused : goal.returns-clause-file_refused
returns-clause-file_refused g c = λ is.
    let s = c.in_ok-session.ensures in
    file_refused (script_value c.args.script) c.args.options c.args.start c.in_ok-session.session c.start.new.self s.rest
    (starts_at (script_value c.args.script) c.args.options _ _ c.args.start s.value c.start.ensures.given) c.runs_end_for_a_cause.ensures.file _ _ _
    c.start.ensures.started (c.drive-end.ensures.file_refused is)

pub returns-clause-output_refused : goal.returns-clause-output_refused
returns-clause-output_refused g c = λ is.
    let s = c.in_ok-session.ensures in
    let started = starts_at (script_value c.args.script) c.args.options _ _ c.args.start s.value c.start.ensures.given in
    c.drive-end.ensures.output_refused (output_there (script_value c.args.script) c.args.options c.args.start c.in_ok-session.session c.start.new.self s.rest started c.runs_end_for_a_cause.ensures.output) is
