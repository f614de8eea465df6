use Rattle.std.proofs.Common.{◌≡◌, drop}
use Rattle.std.specs.List.{filter_map}
use Rattle.ed_rules.specs.Texts.{with_texts}
use Rattle.hints.specs.Sought.{remembered}
use Rattle.hints.proofs.sought.remembered.Given as goal

abbrev pub invariant-choices : goal.invariant-choices
invariant-choices l = remembered l.state ≡ with_texts (filter_map (λ choice. choice) (drop l.choice-index l.choice-items)) l.patterns
