use Rattle.std.proofs.Common.{◌≡◌, ℕ, List, [], None, map, ap, ◌∙◌}
use Rattle.zones.specs.Zone.{Bounds}
use Rattle.zones.specs.Name.{mark}
use Rattle.ed_rules.specs.Choices.{texts_of}
use Rattle.ed_rules.specs.FactsAfter.{letters_that_stay}
use Rattle.ed_rules.specs.facts.Facts.{Facts}
use Rattle.ed_rules.specs.facts.EditedFacts.{Between, edit_of, reading}
use Rattle.ed_rules.specs.facts.NewLines.{spared_by}
use Rattle.ed_rules.specs.facts.SubstitutedFacts.{substituted_facts}
use Rattle.ed_rules.proofs.facts.AfterCalls.{told-as}
use Rattle.ed_rules.proofs.facts.EditCalls.{spared-by}
use Rattle.ed_rules.proofs.state.Old.substituted.Goals as goal

pub returns : goal.returns
returns c =
    let zone : Bounds = c.args.self.now.zone in
    let facts : Facts = c.args.self.now.facts in
    let kept : List ℕ = map (λ (letter : ℕ). mark letter) (letters_that_stay reading c.args.self.now c.args.after.now) in
    let letters : c.in_ok-kept.kept.items ≡ kept =
    c.in_ok-kept.ensures.value
    ∙ ap (λ (gap : Between). map (λ (letter : ℕ). mark letter) (letters_that_stay (edit_of gap None) c.args.self.now c.args.after.now)) c.after.ensures.value in
    let same :
    spared_by zone facts c.addressed-gap.result c.in_ok-same.same.items c.in_ok-kept.kept.items c.in_ok-looks.looks.items ≡
    substituted_facts zone facts (texts_of c.args.possible.now) [] kept c.args.patterns.now =
    rw (letters, c.in_ok-looks.ensures.value, c.in_ok-same.ensures.value)
    (spared-by zone facts c.addressed-gap.result (texts_of c.args.possible.now) c.args.patterns.now kept) in
    record { value = told-as c.spared_by.result _ _ same c.spared_by.ensures.value }
