use Rattle.std.proofs.Common.{◌≡◌, ◌++◌, drop, map}
use Rattle.std.specs.List.{filter}
use Rattle.ed_rules.specs.facts.Facts.{LineFact}
use Rattle.ed_rules.specs.facts.FoundLines.{matches_it, witnesses}
use Rattle.ed_rules.proofs.line_facts.found.witnesses.Given as goal

abbrev pub invariant-loop-fact : goal.invariant-loop-fact
invariant-loop-fact l =
    l.names.items ++ map (λ (f : LineFact). f.name) (filter (matches_it l.pattern) (drop l.fact-index l.fact-items)) ≡ witnesses l.facts l.pattern
