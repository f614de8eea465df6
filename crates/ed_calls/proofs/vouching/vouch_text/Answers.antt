-- A command with a name that no file can have was told, whatever the start, or the analyser's answer.
use Rattle.ed_calls.specs.Finding.{IsJudged, IsUnusable}
use Rattle.ed_calls.proofs.Sayings.{refusal_told, vouches_of}
use Rattle.ed_calls.proofs.vouching.vouch_text.Goals as goal

pub returns-in-Ok-Unusable-clause-says : goal.returns-in-Ok-Unusable-clause-says
returns-in-Ok-Unusable-clause-says g c =
    let found : IsUnusable c.args.script.now c.args.starts c.in-Ok-Unusable.place = rw c.in-Ok-Unusable.field-0-is at c.in-Ok-Unusable.ensures.found in
    refusal_told c.args.script.now c.args.starts _ _ (c.refuse_name.ensures.says c.args.script.now c.args.starts found)

pub returns-in-Ok-Judged-clause-says : goal.returns-in-Ok-Judged-clause-says
returns-in-Ok-Judged-clause-says g c =
    let one = c.in-Ok-Judged.one in
    let found : IsJudged c.args.script.now c.args.starts one = rw c.in-Ok-Judged.field-0-is at c.in-Ok-Judged.ensures.found in
    vouches_of c.args.script.now c.args.starts one.start one.analysis _ _ found.start found.answer found.usable c.tell_answer-status.ensures.says
