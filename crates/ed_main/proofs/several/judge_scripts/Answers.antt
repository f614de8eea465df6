-- The script of the bytes was judged, or those in the files.
use Rattle.std.proofs.Common.{ℕ, List, length, subst}
use Rattle.ed_main.specs.Several.{AreJudged}
use Rattle.ed_main.proofs.JudgedScripts.{each_judged, input_judged}
use Rattle.ed_main.proofs.several.judge_scripts.Goals as goal

pub returns-then-are_none-clause-judged : goal.returns-then-are_none-clause-judged
returns-then-are_none-clause-judged g c =
    input_judged c.args.starts c.args.script.now c.args.scripts.now c.judge_bytes.result c.if-are_none.ensures.value c.judge_bytes.ensures.judged

pub returns-else-are_none-clause-judged : goal.returns-else-are_none-clause-judged
returns-else-are_none-clause-judged g c =
    let judged = subst (λ (paths : List (List ℕ)). AreJudged c.args.starts (length paths) c.judge_each.result) c.as_slice.ensures.value c.judge_each.ensures.judged in
    each_judged c.args.starts c.args.script.now c.args.scripts.now c.judge_each.result c.if-are_none.ensures.value judged
