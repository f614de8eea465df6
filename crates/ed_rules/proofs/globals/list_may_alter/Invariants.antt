use Rattle.std.proofs.Common.{◌≡◌, drop, map}
use Rattle.ed_syntax.specs.PublicTypes.{command_value}
use Rattle.ed_rules.specs.Globals.{list_may_alter}
use Rattle.ed_rules.proofs.globals.list_may_alter.Given as goal

abbrev pub invariant-loop-listed : goal.invariant-loop-listed
invariant-loop-listed l = list_may_alter (map command_value l.listed-items) ≡ list_may_alter (map command_value (drop l.listed-index l.listed-items))
