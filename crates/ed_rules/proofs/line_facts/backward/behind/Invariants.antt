use Rattle.std.proofs.Common.{◌≡◌, ◌++◌, drop}
use Rattle.std.specs.List.{filter}
use Rattle.ed_rules.specs.facts.FoundLines.{is_behind}
use Rattle.ed_rules.proofs.line_facts.backward.behind.Given as goal

abbrev pub invariant-loop-v : goal.invariant-loop-v
invariant-loop-v l = l.some.items ++ filter (is_behind l.zone) (drop l.v-index l.names) ≡ filter (is_behind l.zone) l.names
