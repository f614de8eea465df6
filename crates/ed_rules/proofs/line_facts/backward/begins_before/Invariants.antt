use Rattle.std.proofs.Common.{◌≡◌, ◌++◌, drop, map}
use Rattle.std.specs.List.{filter}
use Rattle.ed_rules.specs.facts.Facts.{Stretch}
use Rattle.ed_rules.specs.facts.FoundLines.{begins_to, begins_before}
use Rattle.ed_rules.proofs.line_facts.backward.begins_before.Given as goal

abbrev pub invariant-loop-stretch : goal.invariant-loop-stretch
invariant-loop-stretch l =
    l.names.items ++ map (λ (s : Stretch). s.after) (filter (begins_to l.zone l.high l.pattern) (drop l.stretch-index l.stretch-items)) ≡
    begins_before l.zone l.facts l.high l.pattern
