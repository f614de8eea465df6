use Rattle.std.proofs.Common.{◌≡◌, drop}
use Rattle.std.specs.List.{list_all}
use Rattle.ed_rules.specs.Substituting.{is_told_not_to_match}
use Rattle.ed_rules.proofs.state.State.none_matches.Given as goal

abbrev pub invariant-loop-choice : goal.invariant-loop-choice
invariant-loop-choice l =
    list_all (is_told_not_to_match l.before l.self.facts l.letter) l.self.patterns ≡
    list_all (is_told_not_to_match l.before l.self.facts l.letter) (drop l.choice-index l.choice-items)
