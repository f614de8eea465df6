use Rattle.std.proofs.Common.{ℕ, false, List, map, ap, sym, ◌∙◌}
use Rattle.ed_base.specs.Lines.{lines_of}
use Rattle.ed_rules.specs.facts.NewLines.{tested_by}
use Rattle.ed_rules.proofs.facts.EditCalls.{none-lines}
use Rattle.ed_rules.proofs.line_facts.new_lines.test_none.Goals as goal

pub returns-in-Some : goal.returns-in-Some
returns-in-Some c = record {
  value = sym
      (ap (λ (ls : List (List ℕ)). tested_by (map (λ (line : List ℕ). false) ls)) c.in-Some.ensures.first
      ∙ none-lines c.in-Some.field-0.0.now (lines_of c.in-Some.field-0.1.now));
}
