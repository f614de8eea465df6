use Rattle.std.proofs.Common.{◌≡◌, ◌++◌, map, drop}
use Rattle.ed_rules.specs.facts.NewLines.{fresh_of, look_at}
use Rattle.ed_rules.proofs.line_facts.edited.looks_at.Given as goal

abbrev pub invariant-loop-pattern : goal.invariant-loop-pattern
invariant-loop-pattern l =
    l.looks.items ++ map (look_at l.facts (fresh_of l.new)) (drop l.pattern-index l.pattern-items) ≡ map (look_at l.facts (fresh_of l.new)) l.patterns
