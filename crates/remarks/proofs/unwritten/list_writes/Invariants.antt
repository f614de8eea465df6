use Rattle.std.proofs.Common.{◌≡◌, drop, map}
use Rattle.std.specs.List.{list_any}
use Rattle.ed_syntax.specs.PublicTypes.{command_value}
use Rattle.remarks.specs.Steps.{writes}
use Rattle.remarks.proofs.unwritten.list_writes.Given as goal

abbrev pub invariant-loop-command : goal.invariant-loop-command
invariant-loop-command l = list_any writes (map command_value l.list) ≡ list_any writes (map command_value (drop l.command-index l.list))
