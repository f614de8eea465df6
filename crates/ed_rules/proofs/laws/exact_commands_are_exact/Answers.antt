use Rattle.ed_rules.proofs.exact.Commands.{command-exact}
use Rattle.ed_rules.proofs.exact.Start.{start-exact}
use Rattle.ed_rules.proofs.laws.exact_commands_are_exact.Goals as goal

pub returns : goal.returns
returns c = record { command = command-exact; start = start-exact }
