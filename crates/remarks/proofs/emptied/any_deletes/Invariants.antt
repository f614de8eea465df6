use Rattle.std.proofs.Common.{◌≡◌, drop, map}
use Rattle.std.specs.List.{list_any}
use Rattle.ed_syntax.specs.PublicTypes.{command_value}
use Rattle.remarks.specs.Steps.{is_delete}
use Rattle.remarks.proofs.emptied.any_deletes.Given as goal

abbrev pub invariant-loop-command : goal.invariant-loop-command
invariant-loop-command l = list_any (λ c. is_delete c.verb) (map command_value l.list) ≡ list_any (λ c. is_delete c.verb) (map command_value (drop l.command-index l.list))
