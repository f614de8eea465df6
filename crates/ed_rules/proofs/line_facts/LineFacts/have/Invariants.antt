use Rattle.std.proofs.Common.{◌≡◌, drop}
use Rattle.std.specs.List.{list_any}
use Rattle.ed_rules.specs.facts.FactOrder.{same_fact}
use Rattle.ed_rules.proofs.line_facts.LineFacts.have.Given as goal

abbrev pub invariant-loop-own : goal.invariant-loop-own
invariant-loop-own l =
    list_any (same_fact l.fact) l.self.lines ≡ list_any (same_fact l.fact) (drop l.own-index l.own-items)
