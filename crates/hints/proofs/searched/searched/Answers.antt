use Rattle.std.proofs.Common.{arith}
use Rattle.ed_syntax.specs.PublicTypes.{step_value}
use Rattle.ed_rules.specs.Matched.{sought_by_step}
use Rattle.hints.proofs.SearchedFor.{command-next}
use Rattle.hints.proofs.searched.searched.Goals as goal

pub commands-preserved : goal.commands-preserved
commands-preserved c =
    command-next sought_by_step step_value c.as_slice-command-items.result.now c.commands.command-index c.command-item.result _ c.commands.patterns
    c.add_step.new.patterns (omega arith) c.command-item.is c.commands.invariant c.in_ok-add_step.ensures.value
