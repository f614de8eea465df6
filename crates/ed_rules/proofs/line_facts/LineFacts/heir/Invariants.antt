use Rattle.std.proofs.Common.{◌≡◌, drop, find, map}
use Rattle.ed_rules.specs.facts.Facts.{LineFact}
use Rattle.ed_rules.specs.facts.AssignedFacts.{is_heir}
use Rattle.ed_rules.proofs.line_facts.LineFacts.heir.Given as goal

abbrev pub invariant-loop-fact : goal.invariant-loop-fact
invariant-loop-fact l =
    find (is_heir l.zone l.x) (map (λ (f : LineFact). f.name) (drop l.fact-index l.fact-items)) ≡
    find (is_heir l.zone l.x) (map (λ (f : LineFact). f.name) l.self.lines)
