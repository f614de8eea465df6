use Rattle.std.proofs.Common.{◌≡◌, ◌+◌, drop, map}
use Rattle.ed_syntax.specs.PublicTypes.{command_value}
use Rattle.ed_calls.specs.Names.{first_in_list}
use Rattle.ed_calls.proofs.names.first_in_list.Given as goal

-- the commands before this one ask for no such file
abbrev pub invariant-loop-index : goal.invariant-loop-index
invariant-loop-index l =
    first_in_list l.number 1 l.remembered (map command_value l.list)
    ≡ first_in_list l.number (l.index + 1) l.remembered (map command_value (drop l.index l.list))
