use Rattle.std.proofs.Common.{◌≡◌, drop}
use Rattle.std.specs.List.{list_any}
use Rattle.ed_rules.specs.facts.Facts.{says}
use Rattle.ed_rules.proofs.line_facts.LineFacts.are_telling.Given as goal

abbrev pub invariant-loop-fact : goal.invariant-loop-fact
invariant-loop-fact l =
    list_any (says l.zone l.x l.pattern l.answer) l.self.lines ≡ list_any (says l.zone l.x l.pattern l.answer) (drop l.fact-index l.fact-items)
