use Rattle.std.proofs.Common.{◌≡◌, drop, map}
use Rattle.std.specs.List.{list_any}
use Rattle.ed_syntax.specs.PublicTypes.{step_value}
use Rattle.remarks.specs.Steps.{step_writes}
use Rattle.remarks.proofs.unwritten.any_writes.Given as goal

abbrev pub invariant-loop-command : goal.invariant-loop-command
invariant-loop-command l = list_any step_writes (map step_value l.commands) ≡ list_any step_writes (map step_value (drop l.command-index l.commands))
