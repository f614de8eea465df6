use Rattle.std.proofs.Common.{◌≡◌, drop}
use Rattle.std.specs.List.{list_all}
use Rattle.ed_rules.specs.facts.FactOrder.{says_line, says_clear}
use Rattle.ed_rules.proofs.line_facts.LineFacts.are_covered.Given as goal

abbrev pub invariant-loop-fact : goal.invariant-loop-fact
invariant-loop-fact l =
    list_all (says_line l.zone l.strong) l.self.lines ≡ list_all (says_line l.zone l.strong) (drop l.fact-index l.fact-items)

abbrev pub invariant-loop-stretch : goal.invariant-loop-stretch
invariant-loop-stretch l =
    list_all (says_clear l.zone l.strong) l.self.clear ≡ list_all (says_clear l.zone l.strong) (drop l.stretch-index l.stretch-items)
