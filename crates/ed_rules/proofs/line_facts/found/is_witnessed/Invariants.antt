use Rattle.std.proofs.Common.{◌≡◌, drop}
use Rattle.std.specs.List.{list_any}
use Rattle.ed_rules.specs.facts.FoundLines.{matches_it}
use Rattle.ed_rules.proofs.line_facts.found.is_witnessed.Given as goal

abbrev pub invariant-loop-fact : goal.invariant-loop-fact
invariant-loop-fact l =
    list_any (matches_it l.pattern) l.facts.lines ≡ list_any (matches_it l.pattern) (drop l.fact-index l.fact-items)
