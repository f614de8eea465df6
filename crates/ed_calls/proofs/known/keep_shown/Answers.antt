-- What is left of the facts is what the test keeps.
use Rattle.std.proofs.Common.{rules, refl}
use Rattle.std.proofs.lemmas.Fn.{filter_same}
use Rattle.ed_calls.specs.Known.{is_shown}
use Rattle.ed_calls.proofs.known.keep_shown.Goals as goal

pub returns : goal.returns
returns c =
    let lines = filter_same _ is_shown _ (λ x b after called. search rules) _ _ c.retain.ensures.filtered in
    record { value = rw (lines, c.clear.ensures.items, ← c.facts.view_is) refl }
