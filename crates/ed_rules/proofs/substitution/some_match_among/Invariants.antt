use Rattle.std.proofs.Common.{◌≡◌, drop}
use Rattle.std.specs.List.{list_any}
use Rattle.ed_rules.specs.Substituting.{is_match_among}
use Rattle.ed_rules.proofs.substitution.some_match_among.Given as goal

abbrev pub invariant-loop-fact : goal.invariant-loop-fact
invariant-loop-fact l =
    list_any (is_match_among l.zone l.pattern) l.facts.lines ≡ list_any (is_match_among l.zone l.pattern) (drop l.fact-index l.fact-items)
