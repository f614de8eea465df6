use Rattle.std.proofs.Common.{◌≡◌, ◌++◌, drop}
use Rattle.ed_rules.specs.facts.AssignedFacts.{to_as}
use Rattle.ed_rules.proofs.line_facts.LineFacts.to_as.Given as goal

abbrev pub invariant-loop-stretch : goal.invariant-loop-stretch
invariant-loop-stretch l = l.clear.items ++ to_as l.fn.x l.fn.y (drop l.stretch-index l.stretch-items) ≡ to_as l.fn.x l.fn.y l.self.clear
