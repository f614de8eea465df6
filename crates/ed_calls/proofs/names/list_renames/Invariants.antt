use Rattle.std.proofs.Common.{◌≡◌, false, drop, map}
use Rattle.std.specs.List.{list_any}
use Rattle.ed_syntax.specs.PublicTypes.{command_value}
use Rattle.ed_calls.specs.Names.{remembered_after}
use Rattle.ed_calls.proofs.names.list_renames.Given as goal

-- the commands that were looked at give no such name
abbrev pub invariant-loop-command : goal.invariant-loop-command
invariant-loop-command l =
    list_any (λ c. remembered_after false c.verb) (map command_value l.list)
    ≡ list_any (λ c. remembered_after false c.verb) (map command_value (drop l.command-index l.list))
