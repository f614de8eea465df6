use Rattle.std.proofs.Common.{◌≡◌, drop, map}
use Rattle.std.specs.List.{list_any}
use Rattle.ed_syntax.specs.PublicTypes.{step_value}
use Rattle.ed_main.specs.Meant.{is_write}
use Rattle.ed_main.proofs.meant.any_writes.Given as goal

abbrev pub invariant-loop-command : goal.invariant-loop-command
invariant-loop-command l = list_any (λ step. is_write step.command.verb) (map step_value l.commands) ≡ list_any (λ step. is_write step.command.verb) (map step_value (drop l.command-index l.commands))
