use Rattle.std.proofs.Common.{arith}
use Rattle.ed_syntax.specs.PublicTypes.{command_value}
use Rattle.ed_rules.specs.Matched.{given_by}
use Rattle.ed_rules.proofs.matches.Watched.{texts-next}
use Rattle.ed_rules.proofs.watch.add_list.Goals as goal

pub loop-command-preserved : goal.loop-command-preserved
loop-command-preserved c =
    texts-next (given_by c.args.follows) command_value c.args.list.now c.loop-command.command-index c.command-item.result _ c.loop-command.patterns c.add_command.new.patterns (omega arith) c.command-item.is c.loop-command.invariant
    c.in_ok-add_command.ensures.value
