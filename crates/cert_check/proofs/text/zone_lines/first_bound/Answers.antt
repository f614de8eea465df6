use Rattle.std.proofs.Common.{◌≡◌, ◌++◌, ◌∷◌, ◌/◌, ◌%◌, true, ℕ, ℤ, List, Some, arith, refl, ◌∙◌, sym, ap, subst, w64}
use Rattle.std.proofs.lemmas.Int.{to_z-of_z}
use Rattle.std.specs.Option.{option_eq}
use Rattle.std.specs.Ordering.{int_eq}
use mir.Val.{to_z, of_z}
use Rattle.zones.specs.Bound.{IsKept, clip_bound}
use Rattle.zones.specs.KnownBounds.{PlacedBound}
use Rattle.zones.proofs.Kept.{clip-is}
use Rattle.zones.proofs.Listing.{option_eq-true, option_eq-itself}
use Rattle.cert_check.specs.text.Text.{spaced}
use Rattle.cert_check.proofs.texts.SpokenBounds.{spoken-is, first-kept, first-spoken}
use Rattle.cert_check.proofs.text.zone_lines.first_bound.Goals as goal

pub returns-then-eq : goal.returns-then-eq
returns-then-eq c =
    let x = c.in-Some.names.0 in
    let y = c.in-Some.names.1 in
    let entry = c.new-entry.result in
    record {
      exact =
          first-spoken c.args.text.now c.in-Some-bound_in.left.now x y c.in-Some-bound_in.number entry c.in-Some-bound_in.ensures.exact
          (omega arith) (omega arith)
          (ap (λ (b : PlacedBound). b.place) c.new-entry.ensures.value)
          (sym c.bound.ensures.value ∙ option_eq-true _ _ (sym c.if-eq.ensures)
          ∙ ap (λ (n : ℤ). Some n)
          (to_z-of_z w64 c.in-Some-bound_in.number (record { sfits = c.in-Some-bound_in.ensures.exact.signed })))
          (subst IsKept c.bound.ensures.value c.bound.ensures.kept);
    }

-- a text that speaks of no names says no bound
pub returns-in_default : goal.returns-in_default
returns-in_default c = record {
  exact = λ b words s e.
      let placed = s.placed in
      let said = c.in_default.ensures.exact (b.place / 32) (b.place % 32) (omega arith) (omega arith) s.row s.column s.number words
      (ap (λ (w : List ℕ). (32 ∷ w) ++ spaced words) (sym (spoken-is b s)) ∙ e) in
      absurd cc;
}

pub returns : goal.returns
returns c = record {
  exact = λ b words s e.
      let number = c.in-Some-bound_in.number in
      let same = to_z-of_z w64 number (record { sfits = c.in-Some-bound_in.ensures.exact.signed }) in
      let kept = first-kept c.args.text.now c.in-Some-bound_in.left.now c.in-Some.names.0 c.in-Some.names.1 number
      c.in-Some-bound_in.ensures.exact b words s e in
      let bound : c.bound.result ≡ Some number =
      c.bound.ensures.value ∙ ap (λ (d : PlacedBound). d.bound) c.new-entry.ensures.value ∙ ap (λ (n : ℤ). clip_bound (Some n)) same
      ∙ clip-is number number refl kept in
      let equal : option_eq int_eq c.bound.result (Some (to_z w64 (of_z w64 number))) ≡ true =
      rw (bound, same) (option_eq-itself (Some number)) in
      let other = c.if-eq.ensures in
      absurd cc;
}
