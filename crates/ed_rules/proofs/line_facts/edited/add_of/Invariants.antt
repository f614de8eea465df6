use Rattle.std.proofs.Common.{◌≡◌, ◌++◌, drop}
use Rattle.ed_rules.specs.facts.NewLines.{left_of}
use Rattle.ed_rules.proofs.line_facts.edited.add_of.Given as goal

abbrev pub invariant-loop-after : goal.invariant-loop-after
invariant-loop-after l =
    l.clear.items ++ left_of l.kind l.zone l.facts l.edited.gap l.edited.same.items (drop l.after-index l.afters) l.befores l.look ≡
    l.fn.clear.items ++ left_of l.kind l.zone l.facts l.edited.gap l.edited.same.items l.afters l.befores l.look
