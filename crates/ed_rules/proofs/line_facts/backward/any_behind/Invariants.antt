use Rattle.std.proofs.Common.{◌≡◌, drop}
use Rattle.std.specs.List.{list_any}
use Rattle.ed_rules.specs.facts.FoundLines.{is_behind}
use Rattle.ed_rules.proofs.line_facts.backward.any_behind.Given as goal

abbrev pub invariant-loop-v : goal.invariant-loop-v
invariant-loop-v l = list_any (is_behind l.zone) l.names ≡ list_any (is_behind l.zone) (drop l.v-index l.names)
