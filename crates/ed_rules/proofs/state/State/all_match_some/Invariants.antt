use Rattle.std.proofs.Common.{◌≡◌, drop}
use Rattle.std.specs.List.{list_all}
use Rattle.ed_rules.specs.Substituting.{matches_some}
use Rattle.ed_rules.proofs.state.State.all_match_some.Given as goal

abbrev pub invariant-loop-choice : goal.invariant-loop-choice
invariant-loop-choice l = list_all (matches_some l.self) l.self.patterns ≡ list_all (matches_some l.self) (drop l.choice-index l.choice-items)
