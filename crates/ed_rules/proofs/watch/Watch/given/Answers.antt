use Rattle.std.proofs.Common.{arith}
use Rattle.ed_syntax.specs.PublicTypes.{step_value}
use Rattle.ed_rules.specs.Matched.{given_by_step}
use Rattle.ed_rules.proofs.matches.Watched.{texts-next}
use Rattle.ed_rules.proofs.watch.Watch.given.Goals as goal

pub loop-command-preserved : goal.loop-command-preserved
loop-command-preserved c =
    texts-next (given_by_step c.args.follows) step_value c.as_slice-command-items.result.now c.loop-command.command-index c.command-item.result _ c.loop-command.patterns c.add_step.new.patterns (omega arith) c.command-item.is
    c.loop-command.invariant c.in_ok-add_step.ensures.value
