use Rattle.std.proofs.Common.{◌≡◌, [], refl}
use Rattle.std.proofs.lemmas.Bool.{false≢true}
use Rattle.ed_rules.proofs.facts.AfterCalls.{told-as, changed-some, changed-none}
use Rattle.ed_rules.proofs.state.Old.facts_changed.Goals as goal

pub returns-then-is_empty : goal.returns-then-is_empty
returns-then-is_empty c =
    let none : c.args.text.now ≡ [] = c.if-is_empty.ensures.value.0 refl in
    record { value = told-as c.facts_untested.result _ _ (changed-none c.args.watch.now c.args.text.now c.args.self.now c.args.after.now none) c.facts_untested.ensures.value }

pub returns-in_ok-tested : goal.returns-in_ok-tested
returns-in_ok-tested c =
    let some : c.args.text.now ≡ [] → ⊥ = λ none. absurd (false≢true (c.if-is_empty.ensures.value.1 none)) in
    record {
      value = told-as c.facts_edited.result _ _ (changed-some c.args.watch.now c.args.text.now c.args.self.now c.args.after.now some)
          (rw (c.in_ok-tested.ensures.value, c.addressed.ensures.value) at c.facts_edited.ensures.value);
    }
