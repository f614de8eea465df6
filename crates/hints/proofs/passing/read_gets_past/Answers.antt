use Rattle.ed_syntax.specs.PublicScript.{script_value}
use Rattle.analyser.specs.Judged.{FailsBy}
use Rattle.hints.proofs.Places.{Laws, past-decided}
use Rattle.hints.proofs.passing.read_gets_past.Goals as goal

pub returns : goal.returns
returns c =
    let laws : Laws = record { either = c.answers_are_determined.ensures.either; failure = c.answers_are_determined.ensures.failure } in
    let fails : FailsBy (script_value c.args.script.now) c.args.start c.in-Some.failure.place c.in-Some.failure.why =
    rw c.in-Some.is at c.in_ok-first_failure.ensures.exact in
    record {
      exact =
          past-decided laws (script_value c.args.script.now) c.args.start c.args.place c.in-Some.failure.place c.in-Some.failure.why fails.0
          c.is_after.result fails.1 c.is_after.ensures.exact;
    }
