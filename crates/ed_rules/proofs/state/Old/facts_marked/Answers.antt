-- The letter's name is its mark.
use Rattle.std.proofs.Common.{ℕ, ap, ◌∙◌}
use Rattle.std.proofs.lemmas.Result.{MatchResult-weaker}
use Rattle.zones.specs.Name.{first_address}
use Rattle.ed_rules.specs.FactsAfter.{facts_as}
use Rattle.ed_rules.proofs.state.Old.facts_marked.Goals as goal

pub returns : goal.returns
returns c = record {
  value = MatchResult-weaker c.facts_as.result c.facts_as.ensures.value
      (λ facts held. held ∙ ap (λ (x : ℕ). facts_as x first_address c.args.self.now) c.of.ensures.value) (λ fault held. held);
}
