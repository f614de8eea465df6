-- What `clap` is told of `-f` by `vouch`: it is that of the others, and may come more than once.
use Rattle.std.proofs.Common.{ap, Some}
use Rattle.clap.specs.Words.{Rule}
use Rattle.clap.specs.declared.builder.action.ArgAction.TheVariants.{Append}
use Rattle.ed_main.proofs.subcommands.scripts.Goals as goal

pub returns-clause-value : goal.returns-clause-value
returns-clause-value c = rw c.action.ensures (ap (λ (rule : Rule). record rule { action = Some Append }) c.script.ensures.value)
