use Rattle.std.proofs.Common.{◌≡◌, ◌++◌, drop}
use Rattle.ed_rules.specs.facts.AssignedFacts.{from_as}
use Rattle.ed_rules.proofs.line_facts.LineFacts.from_as.Given as goal

abbrev pub invariant-loop-stretch : goal.invariant-loop-stretch
invariant-loop-stretch l = l.clear.items ++ from_as l.fn.x l.fn.y (drop l.stretch-index l.stretch-items) ≡ from_as l.fn.x l.fn.y l.self.clear
