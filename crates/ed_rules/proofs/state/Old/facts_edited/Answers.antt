use Rattle.std.proofs.Common.{◌≡◌, ℕ, List, map, ap, ◌∙◌}
use Rattle.zones.specs.Name.{mark}
use Rattle.ed_rules.specs.declared.state.Old.{Old}
use Rattle.ed_rules.specs.Texts.{with_texts}
use Rattle.ed_rules.specs.Following.{patterns_of}
use Rattle.ed_rules.specs.FactsAfter.{letters_that_stay, facts_edited}
use Rattle.ed_rules.specs.facts.EditedFacts.{Edit, edit_of, edited}
use Rattle.ed_rules.specs.facts.NewLines.{fresh_of}
use Rattle.ed_rules.proofs.facts.AfterCalls.{told-as}
use Rattle.ed_rules.proofs.state.Old.facts_edited.Goals as goal

pub returns : goal.returns
unfolding facts_edited
returns c =
    let b : Old = c.args.self.now in
    let e : Edit = edit_of c.args.gap (fresh_of c.args.new) in
    let kept : List ℕ = map (λ (letter : ℕ). mark letter) (letters_that_stay e b c.args.after.now) in
    let patterns : c.in_ok-patterns-2.patterns ≡ with_texts c.args.tested.now (patterns_of b.facts) =
    c.in_ok-patterns-2.ensures.value ∙ ap (with_texts c.args.tested.now) c.in_ok-patterns.ensures.value in
    record { value = told-as c.edited.result _ _ (ap (edited b.zone b.facts e kept) patterns) c.edited.ensures.value }
