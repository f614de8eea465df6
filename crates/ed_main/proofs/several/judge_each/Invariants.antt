-- The scripts so far were judged.
use Rattle.std.proofs.Common.{◌≤◌}
use Rattle.ed_main.specs.Several.{AreJudged}
use Rattle.ed_main.proofs.several.judge_each.Given as goal

abbrev pub invariant-loop-path : goal.invariant-loop-path
invariant-loop-path g l = AreJudged l.starts l.path-index l.status × (l.status ≤ 4)
