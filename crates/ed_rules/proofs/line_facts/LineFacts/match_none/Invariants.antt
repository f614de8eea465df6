use Rattle.std.proofs.Common.{◌≡◌, false, drop}
use Rattle.std.specs.List.{list_all}
use Rattle.ed_rules.specs.facts.Facts.{tells}
use Rattle.ed_rules.proofs.line_facts.LineFacts.match_none.Given as goal

abbrev pub invariant-loop-pattern : goal.invariant-loop-pattern
invariant-loop-pattern l =
    list_all (λ q. tells l.zone l.self l.x q false) l.possible ≡ list_all (λ q. tells l.zone l.self l.x q false) (drop l.pattern-index l.possible)
