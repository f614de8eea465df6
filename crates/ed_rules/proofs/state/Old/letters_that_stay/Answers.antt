use Rattle.std.proofs.Common.{◌≡◌, ◌<◌, ◌++◌, ◌∷◌, [], ℕ, Bool, List, None, All, map, arith, rules, ap, sym, subst, ◌∙◌}
use Rattle.std.specs.List.{filter, range_with_len}
use Rattle.std.proofs.lemmas.Grind.{common_steps}
use Rattle.std.proofs.lemmas.List.Elements.{All-nil, All-cons, All-append}
use Rattle.zones.specs.Name.{mark}
use Rattle.ed_rules.specs.FactsAfter.{stays_marked}
use Rattle.ed_rules.specs.facts.EditedFacts.{edit_of}
use Rattle.ed_rules.proofs.facts.EditCalls.{letter-taken, letter-left_out}
use Rattle.ed_rules.proofs.state.Old.letters_that_stay.Goals as goal
use Rattle.ed_rules.proofs.state.Old.letters_that_stay.Goals.{then-stays_marked+in_ok-push, else-stays_marked}

pub loop-place-preserved : goal.loop-place-preserved
loop-place-preserved c =
    let small : ℕ → Type 0 = λ (x : ℕ). x < 32 in
    let test : ℕ → Bool = stays_marked (edit_of c.args.gap.now None) c.args.self.now c.args.after.now in
    elim c.if-stays_marked.branch [
      | then-stays_marked+in_ok-push w ↦
          let next : c.if-stays_marked.kept.items ≡ c.loop-place.kept.items ++ mark c.at-letter.result ∷ [] = first_of (cc, search rules, grind (arith, common_steps)) in
          let at = c.at-letter.ensures.value in
          let below : mark c.at-letter.result < 32 = omega arith in
          record {
            kept_is = letter-taken test c.loop-place.place c.at-letter.result c.loop-place.kept.items c.if-stays_marked.kept.items at c.loop-place.invariant.kept_is
                (sym c.stays_marked.ensures.value ∙ w.if-stays_marked.true) next;
            in_range = subst (λ (xs : List ℕ). All small xs) (sym next)
                (All-append small c.loop-place.kept.items (mark c.at-letter.result ∷ []) c.loop-place.invariant.in_range
                (All-cons small (mark c.at-letter.result) [] below (All-nil small)));
          }
      | else-stays_marked w ↦
          let same : c.if-stays_marked.kept.items ≡ c.loop-place.kept.items = first_of (cc, search rules) in
          record {
            kept_is = same ∙ letter-left_out test c.loop-place.place c.at-letter.result c.loop-place.kept.items c.at-letter.ensures.value c.loop-place.invariant.kept_is
                (sym c.stays_marked.ensures.value ∙ w.if-stays_marked.false);
            in_range = subst (λ (xs : List ℕ). All small xs) (sym same) c.loop-place.invariant.in_range;
          }
    ]

pub returns-clause-value : goal.returns-clause-value
returns-clause-value c =
    let end : c.loop-place.place ≡ 26 = omega arith in
    c.loop-place.invariant.kept_is
    ∙ ap (λ (n : ℕ). map (λ (letter : ℕ). mark letter) (filter (stays_marked (edit_of c.args.gap.now None) c.args.self.now c.args.after.now) (range_with_len 0 n))) end
