use Rattle.std.proofs.Common.{◌≡◌, nat_eq, drop}
use Rattle.std.specs.List.{list_any}
use Rattle.ed_rules.proofs.line_facts.edited.is_among.Given as goal

abbrev pub invariant-loop-other : goal.invariant-loop-other
invariant-loop-other l = list_any (nat_eq l.edge) l.edges ≡ list_any (nat_eq l.edge) (drop l.other-index l.edges)
