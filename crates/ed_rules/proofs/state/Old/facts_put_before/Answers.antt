use Rattle.std.proofs.Common.{◌≡◌, []}
use Rattle.std.proofs.lemmas.Bool.{false≢true}
use Rattle.ed_rules.proofs.facts.AfterCalls.{told-as, put_before-some}
use Rattle.ed_rules.proofs.state.Old.facts_put_before.Goals as goal

pub returns-in_ok-tested : goal.returns-in_ok-tested
returns-in_ok-tested c =
    let some : c.args.text.now ≡ [] → ⊥ = λ none. absurd (false≢true (c.if-is_empty.ensures.value.1 none)) in
    record {
      value = told-as c.facts_edited.result _ _ (put_before-some c.args.watch.now c.args.text.now c.args.self.now c.args.after.now some)
          (rw (c.in_ok-tested.ensures.value, c.before-gap.ensures.value) at c.facts_edited.ensures.value);
    }
