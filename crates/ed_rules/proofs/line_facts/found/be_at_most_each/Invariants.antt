use Rattle.std.proofs.Common.{◌≡◌, drop}
use Rattle.ed_rules.specs.facts.FoundLines.{at_most_each}
use Rattle.ed_rules.proofs.line_facts.found.be_at_most_each.Given as goal

abbrev pub invariant-loop-y : goal.invariant-loop-y
invariant-loop-y l = at_most_each l.x (drop l.y-index l.names) l.zone ≡ at_most_each l.x l.names l.initial.zone
