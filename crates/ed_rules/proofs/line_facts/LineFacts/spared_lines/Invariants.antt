use Rattle.std.proofs.Common.{◌≡◌, ◌==◌, ◌++◌, ◌&&◌, ◌||◌, nat_eq, drop}
use Rattle.std.specs.List.{list_any, filter}
use Rattle.zones.specs.Name.{last_line}
use Rattle.ed_rules.specs.facts.Facts.{LineFact}
use Rattle.ed_rules.specs.facts.SubstitutedFacts.{is_spared}
use Rattle.ed_rules.proofs.line_facts.LineFacts.spared_lines.Given as goal

abbrev pub invariant-loop-fact : goal.invariant-loop-fact
invariant-loop-fact l =
    l.lines.items ++ filter (λ (f : LineFact). (list_any (nat_eq f.name) l.kept || f.name == last_line) && is_spared l.zone l.self l.possible f.name) (drop l.fact-index l.fact-items) ≡
    filter (λ (f : LineFact). (list_any (nat_eq f.name) l.kept || f.name == last_line) && is_spared l.zone l.self l.possible f.name) l.self.lines
