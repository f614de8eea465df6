use Rattle.std.proofs.Common.{◌≡◌, ◌++◌, drop, map}
use Rattle.std.specs.List.{filter}
use Rattle.ed_rules.specs.facts.Facts.{Stretch}
use Rattle.ed_rules.specs.facts.FoundLines.{ends_from, ends_after}
use Rattle.ed_rules.proofs.line_facts.forward.ends_after.Given as goal

abbrev pub invariant-loop-stretch : goal.invariant-loop-stretch
invariant-loop-stretch l =
    l.names.items ++ map (λ (s : Stretch). s.before) (filter (ends_from l.zone l.low l.pattern) (drop l.stretch-index l.stretch-items)) ≡
    ends_after l.zone l.facts l.low l.pattern
