use Rattle.std.proofs.Common.{◌≡◌, drop}
use Rattle.std.specs.List.{list_any}
use Rattle.ed_rules.specs.facts.FactOrder.{same_stretch}
use Rattle.ed_rules.proofs.line_facts.LineFacts.have_clear.Given as goal

abbrev pub invariant-loop-own : goal.invariant-loop-own
invariant-loop-own l =
    list_any (same_stretch l.stretch) l.self.clear ≡ list_any (same_stretch l.stretch) (drop l.own-index l.own-items)
