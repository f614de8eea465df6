use Rattle.std.proofs.Common.{◌≡◌, drop}
use Rattle.std.specs.List.{list_any}
use Rattle.ed_rules.specs.facts.Facts.{point_at, spans}
use Rattle.ed_rules.proofs.line_facts.LineFacts.are_clear.Given as goal

abbrev pub invariant-loop-stretch : goal.invariant-loop-stretch
invariant-loop-stretch l =
    list_any (spans l.zone (point_at l.x l.i) (point_at l.y l.j) l.pattern) l.self.clear ≡ list_any (spans l.zone (point_at l.x l.i) (point_at l.y l.j) l.pattern) (drop l.stretch-index l.stretch-items)
