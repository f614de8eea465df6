use Rattle.ed_syntax.specs.PublicScript.{script_value}
use Rattle.analyser.specs.Judged.{FailsBy}
use Rattle.hints.proofs.Places.{Laws, not-vouched}
use Rattle.hints.proofs.passing.is_vouched.Goals as goal

pub returns : goal.returns
returns c =
    let laws : Laws = record { either = c.answers_are_determined.ensures.either; failure = c.answers_are_determined.ensures.failure } in
    let fails : FailsBy (script_value c.args.script.now) c.args.start c.in-Some.field-0.place c.in-Some.field-0.why =
    rw c.in-Some.is at c.in_ok-first_failure.ensures.exact in
    record { exact = not-vouched laws (script_value c.args.script.now) c.args.start c.in-Some.field-0.place c.in-Some.field-0.why fails.0 fails.1 }
