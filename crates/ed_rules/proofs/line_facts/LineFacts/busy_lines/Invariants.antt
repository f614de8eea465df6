use Rattle.std.proofs.Common.{◌≡◌, ◌++◌, not, drop}
use Rattle.std.specs.List.{filter}
use Rattle.ed_rules.specs.facts.Facts.{LineFact}
use Rattle.ed_rules.specs.facts.PrunedFacts.{is_idle, busy_lines}
use Rattle.ed_rules.proofs.line_facts.LineFacts.busy_lines.Given as goal

abbrev pub invariant-loop-fact : goal.invariant-loop-fact
invariant-loop-fact l = l.lines.items ++ filter (λ (f : LineFact). not (is_idle l.zone l.self f)) (drop l.fact-index l.fact-items) ≡ busy_lines l.zone l.self
