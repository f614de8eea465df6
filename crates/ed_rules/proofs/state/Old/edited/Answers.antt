use Rattle.std.proofs.Common.{◌≡◌, ℕ, List, Option, IfOk, map, subst}
use Rattle.zones.specs.Zone.{Bounds}
use Rattle.zones.specs.Name.{mark}
use Rattle.ed_rules.specs.FactsAfter.{letters_that_stay}
use Rattle.ed_rules.specs.facts.Facts.{Facts}
use Rattle.ed_rules.specs.facts.EditedFacts.{Fresh, edit_of, edited}
use Rattle.ed_rules.specs.facts.NewLines.{fresh_of, edited_by}
use Rattle.ed_rules.proofs.facts.EditCalls.{edited-is}
use Rattle.ed_rules.proofs.state.Old.edited.Goals as goal

pub returns : goal.returns
returns c =
    let zone : Bounds = c.args.self.now.zone in
    let facts : Facts = c.args.self.now.facts in
    let fresh : Option (List Fresh) = fresh_of c.args.new in
    let patterns : List (List ℕ) = c.args.patterns.now in
    let kept : List ℕ = map (λ (letter : ℕ). mark letter) (letters_that_stay (edit_of c.args.gap fresh) c.args.self.now c.args.after.now) in
    let same :
    edited_by zone facts c.args.gap c.in_ok-same.same.items c.in_ok-kept.kept.items c.in_ok-looks.looks.items ≡
    edited zone facts (edit_of c.args.gap fresh) kept patterns =
    rw (c.in_ok-same.ensures.value, c.in_ok-kept.ensures.value, c.in_ok-looks.ensures.value) (edited-is zone facts c.args.gap fresh patterns kept) in
    record { value = subst (λ (t : Facts). IfOk c.edited_by.result (λ made. made ≡ t)) same c.edited_by.ensures.value }
