use Rattle.std.proofs.Common.{◌≡◌, drop}
use Rattle.std.specs.List.{list_any}
use Rattle.ed_rules.specs.StandsFor.{ends_line}
use Rattle.ed_rules.proofs.substitution.splits.Given as goal

abbrev pub invariant-loop-part : goal.invariant-loop-part
invariant-loop-part l = list_any ends_line l.replacement ≡ list_any ends_line (drop l.part-index l.part-items)
