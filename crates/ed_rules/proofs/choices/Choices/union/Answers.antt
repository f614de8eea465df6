use Rattle.std.proofs.Common.{◌≡◌, ◌∙◌, true, List, ap, sym, subst}
use Rattle.ed_rules.specs.Choices.{Choice, is_set, union}
use Rattle.ed_rules.proofs.formed.RisingChoices.{set-union}
use Rattle.ed_rules.proofs.choices.Choices.union.Goals as goal

pub invariant_of-result : goal.invariant_of-result
invariant_of-result c =
    subst (λ (set : List Choice). is_set set ≡ true) (sym c.in_ok-set.ensures.value) (set-union c.self.inside.set c.other.inside.set c.self.invariant c.other.invariant)

pub returns : goal.returns
returns c = record {
  value = c.in_ok-set.ensures.value ∙ ap (λ (one : List Choice). union one c.other.inside.set) c.self.view_is ∙ ap (λ (other : List Choice). union c.args.self.now other) c.other.view_is;
}
