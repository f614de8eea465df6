-- The facts of the lines that are current, last or marked are told by the buffer alone: they hold by all numbers that are read of it.
use Rattle.std.proofs.Common.{◌≡◌, ◌<◌, ◌≤◌, ◌+◌, ◌-◌, ◌==◌, inl, inr, ℕ, zero, suc, ℤ, pos, ◌+ℤ◌, Bool, true, false, ◌&&◌, ◌||◌, nat_lt, List, length, Some, refl, sym, ap, subst, ◌∙◌, arith}
use Rattle.std.proofs.lemmas.Int.{ints}
use Rattle.std.proofs.lemmas.Bool.{and_parts, or_cases, cases_lt, ltb-true}
use Rattle.std.proofs.lemmas.Bool.Decides.{eqb_tells}
use Rattle.zones.specs.Zone.{Numbers, updated}
use Rattle.zones.proofs.Known.{updated-other}
use Rattle.ed_base.specs.Buffer.{Line}
use Rattle.ed_syntax.specs.meaning.Values.{matches_line}
use Rattle.ed_rules.specs.Marks.{is_sure}
use Rattle.ed_rules.specs.StandsFor.{Reads}
use Rattle.ed_rules.specs.Following.{may_name, spoken_facts}
use Rattle.ed_rules.specs.FactsAfter.{facts_ended}
use Rattle.ed_rules.specs.facts.Facts.{LineFact, Stretch, Facts, FactsHold, LineFactHolds, StretchHolds, value_of, point, end}
use Rattle.ed_rules.specs.facts.FoundLines.{without}
use Rattle.ed_rules.proofs.facts.FoundLines.{filter-both, told-same, clear-within, FactsHold-without}

-- FACTS OF NAMES THAT HAVE THE SAME NUMBERS

-- two ways to number names agree on those of no letter and of sure ones
abbrev pub Agree : List Bool → (v w : Numbers) → Type 0
Agree marks v w = (y : ℕ) → may_name marks y ≡ true → w y ≡ v y

value-agreed : (marks : List Bool) (v w : Numbers) → Agree marks v w → (z : ℕ) → z == end || may_name marks z ≡ true →
    value_of w (point z) ≡ value_of v (point z)
value-agreed marks v w a z e =
    elim (eqb_tells z 32) [
      | inl is ↦ rw is.0 (ap (λ (n : ℤ). n +ℤ pos 1) (a 2 refl))
      | inr other ↦
          let named : may_name marks z ≡ true = elim (or_cases (z == end) (may_name marks z) e) [
            | inl f ↦ let g : true ≡ false = sym f ∙ other.0 in absurd cc
            | inr f ↦ f
          ] in
          rw other.0 (ap (λ (n : ℤ). n +ℤ pos 0) (a z named))
    ]

pub spoken-agreed : (marks : List Bool) (facts : Facts) (v w : Numbers) (lines : List Line) → Agree marks v w → FactsHold facts v lines →
    FactsHold (spoken_facts marks facts) w lines
spoken-agreed marks facts v w lines a h = record {
  of_lines = filter-both (λ (f : LineFact). may_name marks f.name) (LineFactHolds v lines) (LineFactHolds w lines) facts.lines h.of_lines
      (λ f q e. record { named = q.named; holds = told-same (length lines) (matches_line f.pattern lines) (v f.name) (w f.name) f.matches (a f.name e) q.holds });
  of_clear =
      filter-both (λ (s : Stretch). (s.after == end || may_name marks s.after) && (s.before == end || may_name marks s.before))
      (StretchHolds v lines) (StretchHolds w lines) facts.clear h.of_clear
      (λ s q e.
      let b = and_parts (s.after == end || may_name marks s.after) (s.before == end || may_name marks s.before) e in
      let low = value-agreed marks v w a s.after b.0 in
      let high = value-agreed marks v w a s.before b.1 in
      record {
        after_named = q.after_named;
        before_named = q.before_named;
        holds = clear-within (length lines) (matches_line s.pattern lines) _ _ _ _ (omega (arith, ints)) (omega (arith, ints)) q.holds;
      });
}

-- NUMBERS THAT ARE READ OF THE SAME BUFFER

some-same : (i j : ℕ) → Some i ≡ Some j → i ≡ j
some-same i j e = cc

letter-agreed : (marks : List Bool) (lines : List Line) (current : ℕ) (v w : Numbers) → Reads marks lines current v → Reads marks lines current w →
    (letter : ℕ) → letter < 26 → is_sure marks letter ≡ true → w (6 + letter) ≡ v (6 + letter)
letter-agreed marks lines current v w r q letter l e =
    let i = r.marks_are letter l e in
    let j = q.marks_are letter l e in
    let same : j.0 ≡ i.0 = some-same j.0 i.0 (sym j.1 ∙ i.1) in
    j.2 ∙ ap (λ (n : ℕ). pos (n + 1)) same ∙ sym i.2

module _ (marks : List Bool) (lines : List Line) (current : ℕ) (v w : Numbers) (r : Reads marks lines current v) (q : Reads marks lines current w) where
  -- with the addresses of the second
  abbrev addressed : Numbers
  addressed = updated (updated (updated v 3 (w 3)) 4 (w 4)) 5 (w 5)

  low-agreed : (y : ℕ) → y < 6 → w y ≡ addressed y
  low-agreed zero l = q.zero_is ∙ sym r.zero_is
  low-agreed (suc zero) l = q.current_is ∙ sym r.current_is
  low-agreed (suc (suc zero)) l = q.last_is ∙ sym r.last_is
  low-agreed (suc (suc (suc zero))) l = refl
  low-agreed (suc (suc (suc (suc zero)))) l = refl
  low-agreed (suc (suc (suc (suc (suc zero))))) l = refl
  low-agreed (suc (suc (suc (suc (suc (suc y)))))) l = absurd (omega arith)

  high-agreed : (y : ℕ) → 6 ≤ y → may_name marks y ≡ true → w y ≡ addressed y
  high-agreed y g e =
      let b = and_parts (nat_lt y 32) (nat_lt y 6 || is_sure marks (y - 6)) e in
      let small = ltb-true y 32 b.0 in
      let sure : is_sure marks (y - 6) ≡ true = elim (or_cases (nat_lt y 6) (is_sure marks (y - 6)) b.1) [
        | inl f ↦ let few = ltb-true y 6 f in absurd (omega arith)
        | inr f ↦ f
      ] in
      let same : 6 + (y - 6) ≡ y = omega arith in
      let k : w y ≡ v y =
      subst (λ (z : ℕ). w z ≡ v z) same (letter-agreed marks lines current v w r q (y - 6) (omega arith) sure) in
      let one = updated-other v 3 (w 3) y (λ (z : y ≡ 3). omega arith) in
      let two = updated-other (updated v 3 (w 3)) 4 (w 4) y (λ (z : y ≡ 4). omega arith) in
      let three = updated-other (updated (updated v 3 (w 3)) 4 (w 4)) 5 (w 5) y (λ (z : y ≡ 5). omega arith) in
      k ∙ sym one ∙ sym two ∙ sym three

  agreed : Agree marks addressed w
  agreed y e = elim (cases_lt y 6) [
    | inl l ↦ low-agreed y l
    | inr g ↦ high-agreed y g e
  ]

  -- at the end of a rule
  pub ended-agreed : (facts : Facts) → FactsHold facts v lines → FactsHold (facts_ended marks facts) w lines
  ended-agreed facts h =
      let one : FactsHold (without 3 facts) (updated v 3 (w 3)) lines = FactsHold-without 3 (w 3) facts v lines (λ (z : 2 ≡ 3). omega arith) h in
      let two : FactsHold (without 4 (without 3 facts)) (updated (updated v 3 (w 3)) 4 (w 4)) lines =
      FactsHold-without 4 (w 4) (without 3 facts) (updated v 3 (w 3)) lines (λ (z : 2 ≡ 4). omega arith) one in
      let three : FactsHold (without 5 (without 4 (without 3 facts))) addressed lines =
      FactsHold-without 5 (w 5) (without 4 (without 3 facts)) (updated (updated v 3 (w 3)) 4 (w 4)) lines (λ (z : 2 ≡ 5). omega arith) two in
      spoken-agreed marks (without 5 (without 4 (without 3 facts))) addressed w lines agreed three
