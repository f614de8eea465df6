-- Nothing was told of a command with a name that no file has, or what explains the analyser's answer.
use Rattle.ed_calls.specs.Finding.{IsJudged, IsUnusable}
use Rattle.ed_calls.proofs.Explanations.{explains_of, unusable_of}
use Rattle.ed_calls.proofs.explaining.explain_script.Goals as goal

pub returns-in-Ok-Unusable-clause-says : goal.returns-in-Ok-Unusable-clause-says
returns-in-Ok-Unusable-clause-says g c =
    let found : IsUnusable c.args.script.now c.args.starts c.in-Ok-Unusable.place = rw c.in-Ok-Unusable.field-0-is at c.in-Ok-Unusable.ensures.found in
    unusable_of c.args.script.now c.args.starts c.in-Ok-Unusable.place c.nothing_told.result _ _ found c.nothing_told.ensures.value c.tell.ensures.says

pub returns-in-Ok-Judged-clause-says : goal.returns-in-Ok-Judged-clause-says
returns-in-Ok-Judged-clause-says g c =
    let one = c.in-Ok-Judged.one in
    let found : IsJudged c.args.script.now c.args.starts one = rw c.in-Ok-Judged.field-0-is at c.in-Ok-Judged.ensures.found in
    explains_of c.args.script.now c.args.starts one c.answer_told.result _ _ found c.answer_told.ensures.value c.tell-status.ensures.says
