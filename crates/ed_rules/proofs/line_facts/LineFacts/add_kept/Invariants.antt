use Rattle.std.proofs.Common.{◌≡◌, ◌++◌, nat_eq, drop}
use Rattle.std.specs.List.{list_any, filter}
use Rattle.ed_rules.specs.facts.Facts.{LineFact}
use Rattle.ed_rules.proofs.line_facts.LineFacts.add_kept.Given as goal

abbrev pub invariant-loop-fact : goal.invariant-loop-fact
invariant-loop-fact l =
    l.lines.items ++ filter (λ (f : LineFact). list_any (nat_eq f.name) l.kept) (drop l.fact-index l.fact-items) ≡
    l.fn.lines.items ++ filter (λ (f : LineFact). list_any (nat_eq f.name) l.kept) l.self.lines
