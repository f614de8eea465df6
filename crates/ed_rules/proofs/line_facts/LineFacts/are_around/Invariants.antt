use Rattle.std.proofs.Common.{◌≡◌, drop}
use Rattle.std.specs.List.{list_any}
use Rattle.ed_rules.specs.facts.Facts.{holds_line}
use Rattle.ed_rules.proofs.line_facts.LineFacts.are_around.Given as goal

abbrev pub invariant-loop-stretch : goal.invariant-loop-stretch
invariant-loop-stretch l =
    list_any (holds_line l.zone l.x l.pattern) l.self.clear ≡ list_any (holds_line l.zone l.x l.pattern) (drop l.stretch-index l.stretch-items)
