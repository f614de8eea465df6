use Rattle.std.proofs.Common.{◌≡◌, ◌++◌, flat_map, drop}
use Rattle.ed_rules.specs.facts.NewLines.{left_of}
use Rattle.ed_rules.proofs.state.Old.add_left.Given as goal

abbrev pub invariant-loop-look : goal.invariant-loop-look
invariant-loop-look l =
    l.clear.items ++ flat_map (left_of l.kind l.self.zone l.self.facts l.edited.gap l.edited.same.items l.afters l.befores) (drop l.look-index l.look-items) ≡
    l.fn.clear.items ++ flat_map (left_of l.kind l.self.zone l.self.facts l.edited.gap l.edited.same.items l.afters l.befores) l.edited.looks.items
