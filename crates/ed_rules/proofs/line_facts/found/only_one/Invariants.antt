use Rattle.std.proofs.Common.{◌≡◌, drop, find}
use Rattle.ed_rules.specs.facts.FoundLines.{is_only}
use Rattle.ed_rules.proofs.line_facts.found.only_one.Given as goal

abbrev pub invariant-loop-x : goal.invariant-loop-x
invariant-loop-x l =
    find (is_only l.zone l.facts l.pattern) (drop l.x-index l.names) ≡ find (is_only l.zone l.facts l.pattern) l.names
