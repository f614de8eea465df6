-- What `vouch` would tell is a certificate, the need that fails, or a name that no file has.
use Rattle.ed_calls.specs.Finding.{IsJudged, IsUnusable}
use Rattle.ed_calls.proofs.Judgements.{judged_refused, judged_unusable, judged_vouched}
use Rattle.ed_calls.proofs.judgement.judge_text.Goals as goal

pub returns-in-Ok-Unusable-clause-judged : goal.returns-in-Ok-Unusable-clause-judged
returns-in-Ok-Unusable-clause-judged c =
    let found : IsUnusable c.args.script.now c.args.starts c.in-Ok-Unusable.place = rw c.in-Ok-Unusable.field-0-is at c.in-Ok-Unusable.ensures.found in
    judged_unusable c.args.script.now c.args.starts c.in-Ok-Unusable.place found

pub returns-in-Vouched-clause-judged : goal.returns-in-Vouched-clause-judged
returns-in-Vouched-clause-judged c =
    let one = c.in-Ok-Judged.one in
    let found : IsJudged c.args.script.now c.args.starts one = rw c.in-Ok-Judged.field-0-is at c.in-Ok-Judged.ensures.found in
    judged_vouched c.args.script.now c.args.starts one c.in-Vouched.field-0 found c.in-Vouched.is

pub returns-in-Ok-Judged-clause-judged : goal.returns-in-Ok-Judged-clause-judged
returns-in-Ok-Judged-clause-judged c =
    let one = c.in-Ok-Judged.one in
    let found : IsJudged c.args.script.now c.args.starts one = rw c.in-Ok-Judged.field-0-is at c.in-Ok-Judged.ensures.found in
    judged_refused c.args.script.now c.args.starts one _ _ _ found c.in-Cannot.is
