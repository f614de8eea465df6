use Rattle.std.proofs.Common.{◌≡◌, drop}
use Rattle.std.specs.List.{list_all}
use Rattle.ed_rules.specs.Substituting.{matches_each}
use Rattle.ed_rules.proofs.state.State.all_match_each.Given as goal

abbrev pub invariant-loop-choice : goal.invariant-loop-choice
invariant-loop-choice l = list_all (matches_each l.self) l.self.patterns ≡ list_all (matches_each l.self) (drop l.choice-index l.choice-items)
