use Rattle.std.proofs.Common.{◌≡◌, drop, map}
use Rattle.std.specs.List.{list_any}
use Rattle.ed_syntax.specs.PublicTypes.{command_value}
use Rattle.ed_syntax.specs.meaning.Erasure.{command_names}
use Rattle.ed_syntax.proofs.naming.list_names.Given as goal

abbrev pub invariant-loop-command : goal.invariant-loop-command
invariant-loop-command l = list_any (command_names l.letter) (map command_value l.list) ≡ list_any (command_names l.letter) (map command_value (drop l.command-index l.list))
