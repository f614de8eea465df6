use Rattle.ed_syntax.specs.PublicScript.{script_value}
use Rattle.analyser.proofs.Answering.{walked-from}
use Rattle.analyser.proofs.analysing.analyse.Goals as goal

pub answer-requires-clause-counted : goal.answer-requires-clause-counted
answer-requires-clause-counted c = c.in_ok-counts.ensures.value.0

pub answer-requires-clause-walked : goal.answer-requires-clause-walked
answer-requires-clause-walked c =
    let begins = c.in_ok-counts.ensures.value in
    walked-from _ _ _ _ _ _ c.in_ok-walk.walk begins.1 c.as_slice-2.ensures.value begins.2 c.in_ok-walk.ensures.value

pub returns-clause-foretold : goal.returns-clause-foretold
returns-clause-foretold c = c.exact_scripts_are_foretold.ensures.exact (script_value c.args.script.now) c.args.start c.answer.result c.answer.ensures.exact
