use Rattle.std.proofs.Common.{◌≡◌, ◌++◌, flat_map, drop}
use Rattle.ed_rules.specs.declared.line_facts.edited.Look.{Look}
use Rattle.ed_rules.specs.facts.EditedFacts.{told_fact}
use Rattle.ed_rules.proofs.line_facts.edited.add_told.Given as goal

abbrev pub invariant-loop-look : goal.invariant-loop-look
invariant-loop-look l =
    l.lines.items ++ flat_map (λ (look : Look). told_fact l.name look.pattern look.tested.last) (drop l.look-index l.looks) ≡
    l.fn.lines.items ++ flat_map (λ (look : Look). told_fact l.name look.pattern look.tested.last) l.looks
