-- Each script was judged, and the greatest status is kept.
use Rattle.std.proofs.Common.{◌≡◌, ℕ, arith, length, lit≤, subst}
use Rattle.ed_main.specs.Several.{AreJudged}
use Rattle.ed_main.proofs.JudgedScripts.{and_judged, none_judged}
use Rattle.ed_main.proofs.several.judge_each.Goals as goal

pub loop-path-init : goal.loop-path-init
loop-path-init g c = (none_judged c.args.starts.now, lit≤ tt)

pub loop-path-preserved : goal.loop-path-preserved
loop-path-preserved g c =
    let before = c.loop-path.invariant in
    let judged = and_judged c.args.starts.now c.loop-path.path-index c.loop-path.status c.judge_at-one.result before.0 c.judge_at-one.ensures.came in
    (rw c.greater-status.ensures.value judged, c.greater-status.ensures.within 4 c.judge_at-one.ensures.status before.1)

pub returns-clause-judged : goal.returns-clause-judged
returns-clause-judged g c =
    let all : c.loop-path.path-index ≡ length c.args.paths.now = omega arith in
    subst (λ (count : ℕ). AreJudged c.args.starts.now count c.loop-path.status) all c.loop-path.invariant.0
