use Rattle.std.proofs.Common.{◌≡◌, drop}
use Rattle.std.specs.List.{list_all}
use Rattle.ed_rules.specs.Addresses.{is_found}
use Rattle.ed_rules.proofs.state.State.all_are_found.Given as goal

abbrev pub invariant-loop-choice : goal.invariant-loop-choice
invariant-loop-choice l = list_all (is_found l.self) l.self.patterns ≡ list_all (is_found l.self) (drop l.choice-index l.choice-items)
