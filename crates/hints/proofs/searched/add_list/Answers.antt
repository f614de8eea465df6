use Rattle.std.proofs.Common.{arith}
use Rattle.ed_syntax.specs.PublicTypes.{command_value}
use Rattle.ed_rules.specs.Matched.{sought}
use Rattle.hints.proofs.SearchedFor.{command-next}
use Rattle.hints.proofs.searched.add_list.Goals as goal

pub commands-preserved : goal.commands-preserved
commands-preserved c =
    command-next sought command_value c.args.list.now c.commands.command-index c.command-item.result _ c.commands.patterns c.add_command.new.patterns
    (omega arith) c.command-item.is c.commands.invariant c.in_ok-add_command.ensures.value
