use Rattle.std.proofs.Common.{◌≡◌, ◌++◌, drop}
use Rattle.ed_rules.specs.facts.NewLines.{left_from}
use Rattle.ed_rules.proofs.line_facts.edited.add_from.Given as goal

abbrev pub invariant-loop-before : goal.invariant-loop-before
invariant-loop-before l =
    l.clear.items ++ left_from l.kind l.zone l.facts l.edited.gap l.edited.same.items (drop l.before-index l.befores) l.look l.after ≡
    l.fn.clear.items ++ left_from l.kind l.zone l.facts l.edited.gap l.edited.same.items l.befores l.look l.after
