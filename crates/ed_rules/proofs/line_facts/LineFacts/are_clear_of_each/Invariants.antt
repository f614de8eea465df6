use Rattle.std.proofs.Common.{◌≡◌, drop}
use Rattle.std.specs.List.{list_all}
use Rattle.ed_rules.specs.facts.Facts.{point_at, is_clear}
use Rattle.ed_rules.proofs.line_facts.LineFacts.are_clear_of_each.Given as goal

abbrev pub invariant-loop-pattern : goal.invariant-loop-pattern
invariant-loop-pattern l =
    list_all (λ q. is_clear l.zone l.self (point_at l.x l.i) (point_at l.y l.j) q) l.possible ≡
    list_all (λ q. is_clear l.zone l.self (point_at l.x l.i) (point_at l.y l.j) q) (drop l.pattern-index l.possible)
