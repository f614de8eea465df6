use Rattle.std.proofs.Common.{◌≡◌, drop}
use Rattle.std.specs.List.{filter}
use Rattle.ed_rules.specs.Texts.{with_texts}
use Rattle.hints.specs.Sought.{is_unmatched}
use Rattle.hints.proofs.sought.add_unmatched.Given as goal

abbrev pub invariant-texts : goal.invariant-texts
invariant-texts l =
    with_texts (filter (is_unmatched l.state) l.patterns) l.fn.unmatched ≡ with_texts (filter (is_unmatched l.state) (drop l.text-index l.text-items)) l.unmatched
