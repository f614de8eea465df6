use Rattle.std.proofs.Common.{◌≡◌, [], drop}
use Rattle.ed_rules.specs.facts.PrunedFacts.{with_unsaid}
use Rattle.ed_rules.proofs.line_facts.pruned.unsaid.Given as goal

abbrev pub invariant-loop-stretch : goal.invariant-loop-stretch
invariant-loop-stretch l = with_unsaid l.zone l.kept.clear (drop l.stretch-index l.clear) ≡ with_unsaid l.zone [] l.clear
