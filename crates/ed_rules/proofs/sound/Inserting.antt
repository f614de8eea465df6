-- Insertion: low to high lines after x + c.
use Rattle.std.proofs.Common.{◌≡◌, ◌≢◌, ◌<◌, ◌≤◌, inl, inr, ℕ, suc, ◌+◌, ◌-◌, ℤ, pos, negsuc, neg_ℤ, ◌+ℤ◌, ◌-ℤ◌, Bool, true, false, cond, List, length, get_or, Option, None, Some, arith, ◌∙◌, ap, refl, sym, subst}
use Rattle.std.proofs.lemmas.Int.{ints}
use Rattle.std.proofs.lemmas.Bool.{cases_eq, cases_lt}
use Rattle.ed_base.specs.Buffer.{Line, marked_place}
use Rattle.zones.specs.Name.{mark}
use Rattle.zones.specs.Bound.{Obeys, negative_of}
use Rattle.zones.specs.Zone.{Bounds, Numbers, Holds, updated}
use Rattle.zones.specs.Steps.{after_shift}
use Rattle.zones.proofs.Soundness.{Holds-after_shift}
use Rattle.ed_rules.specs.StandsFor.{HoldsBy}
use Rattle.ed_rules.proofs.sound.LettersInLines.{line_with, line_with-place, place-line_with, line_with-inserted_before, line_with-inserted_after, length-inserted, line_with-range}
use Rattle.ed_rules.proofs.sound.Finishing.{for_each_sure-by}
use Rattle.zones.specs.Known.{known}
use Rattle.ed_rules.specs.Marks.{for_each_sure}
use Rattle.ed_rules.specs.Pieces.{mark_pushed, inserted}
use Rattle.zones.proofs.Known.{updated-same, updated-other, known-true, Obeys-less}
use Rattle.ed_base.specs.Parts as parts

abbrev pub OnLine : ℕ → List Line → Numbers → Type 0
OnLine x ls v = (i : ℕ) × (line_with x ls ≡ Some i) × (v (6 + x) ≡ pos i)

-- a letter's line by the landed place, and the other way round
pub OnLine-reads : (x : ℕ) (ls : List Line) (v : Numbers) → ((place : ℕ) × (marked_place x ls ≡ Some place) × (v (mark x) ≡ pos (place + 1))) → OnLine x ls v
OnLine-reads x ls v o = (o.0 + 1, line_with-place x ls o.0 o.1, o.2)

pub reads-OnLine : (x : ℕ) (ls : List Line) (v : Numbers) → OnLine x ls v → (place : ℕ) × (marked_place x ls ≡ Some place) × (v (mark x) ≡ pos (place + 1))
reads-OnLine x ls v o =
    let r = line_with-range x ls o.0 o.1 in
    (o.0 - 1, place-line_with x ls o.0 o.1, o.2 ∙ ap pos (omega arith))

-- once the letters below k are done
pub record Pushed (sure : List Bool) (new_lines : List Line) (v : Numbers) (k : ℕ) (zone : Bounds) : Type 0 where
  pub numbers : Numbers
  pub holds : Holds zone numbers
  pub low : (p : ℕ) → p < 6 → numbers p ≡ v p
  pub on_line : (x : ℕ) → x < k → get_or sure x false ≡ true → OnLine x new_lines numbers
  pub rest : (p : ℕ) → 6 + k ≤ p → numbers p ≡ v p

-- one letter more
pub Pushed-more : (sure : List Bool) (lines : List Line) (v : Numbers) (k : ℕ) (z t : Bounds) (q : Pushed sure lines v k z) (w : Numbers) → Holds t w →
    ((p : ℕ) → p ≢ 6 + k → w p ≡ q.numbers p) → (get_or sure k false ≡ true → OnLine k lines w) → Pushed sure lines v (suc k) t
Pushed-more sure lines v k z t q w holds others there = record {
  numbers = w;
  holds = holds;
  low = λ p h. others p (omega arith) ∙ q.low p h;
  on_line = λ x h e.
      elim (cases_eq x k) [
        | inl s ↦ (let P : ℕ → Type 0 = λ (u : ℕ). get_or sure u false ≡ true → OnLine u lines w in subst P (sym s) there) e
        | inr n ↦ let o = q.on_line x (omega arith) e in (o.0, o.1, others (6 + x) (omega arith) ∙ o.2)
      ];
  rest = λ p h. others p (omega arith) ∙ q.rest p (omega arith);
}

module _ (y : ℕ) (c : ℤ) (low high : Option ℤ) (sure : List Bool) (ls new : List Line) (place : ℕ) (v : Numbers) (hy : y < 6) (at : v y +ℤ c ≡ pos place)
    (on : (x : ℕ) → x < 26 → get_or sure x false ≡ true → OnLine x ls v) (none : (x : ℕ) → line_with x new ≡ None)
    (up : Obeys (pos (length new)) high) (down : Obeys (neg_ℤ (pos (length new))) (negative_of low)) where
  -- the mark moves to line j
  Pushed-shifted : (k : ℕ) (z : Bounds) (q : Pushed sure (parts.inserted place new ls) v k z) (i j : ℕ) (lo hi : Option ℤ) → k < 26 → v (6 + k) ≡ pos i →
      line_with k (parts.inserted place new ls) ≡ Some j → Obeys (pos j -ℤ pos i) hi → Obeys (pos i -ℤ pos j) (negative_of lo) →
      Pushed sure (parts.inserted place new ls) v (suc k) (after_shift z (mark k) lo hi)
  Pushed-shifted k z q i j lo hi h vi there above below =
      let w : Numbers = updated q.numbers (6 + k) (pos j) in
      let wj : w (6 + k) ≡ pos j = updated-same q.numbers (6 + k) (pos j) in
      let qi : q.numbers (6 + k) ≡ pos i = q.rest (6 + k) (omega arith) ∙ vi in
      Pushed-more sure (parts.inserted place new ls) v k z (after_shift z (mark k) lo hi) q w
      (Holds-after_shift z (6 + k) lo hi q.numbers w (omega arith) q.holds (updated-other q.numbers (6 + k) (pos j)) (rw (wj, qi) above) (rw (wj, qi) below))
      (updated-other q.numbers (6 + k) (pos j)) (λ e. (j, there, wj))

  Pushed-step : (k : ℕ) (z : Bounds) → k < 26 → get_or sure k false ≡ true → Pushed sure (parts.inserted place new ls) v k z →
      Pushed sure (parts.inserted place new ls) v (suc k) (mark_pushed y c low high k z)
  unfolding mark_pushed
  Pushed-step k z h e q =
      let o = on k h e in
      let i : ℕ = o.0 in
      let vi : v (6 + k) ≡ pos i = o.2 in
      let qi : q.numbers (6 + k) ≡ pos i = q.rest (6 + k) (omega arith) ∙ vi in
      let qy : q.numbers y ≡ v y = q.low y hy in
      let G : Bounds → Type 0 = Pushed sure (parts.inserted place new ls) v (suc k) in
      (elim (known z (mark k) y c) as (λ r. known z (mark k) y c ≡ r → G (cond r z (cond (known z y (mark k) (negsuc 0 -ℤ c)) (after_shift z (mark k) low high) (after_shift z (mark k) (Some (pos 0)) high)))) [
        | true ↦ λ a.
            let d = known-true z q.numbers (6 + k) y c a (omega arith) (omega arith) q.holds in
            let le : i ≤ place = omega (arith, ints) in
            Pushed-more sure (parts.inserted place new ls) v k z z q q.numbers q.holds (λ p n. refl) (λ _. (i, line_with-inserted_before k ls new place i o.1 le, qi))
        | false ↦ λ _.
            (elim (known z y (mark k) (negsuc 0 -ℤ c)) as (λ r. known z y (mark k) (negsuc 0 -ℤ c) ≡ r → G (cond r (after_shift z (mark k) low high) (after_shift z (mark k) (Some (pos 0)) high))) [
              | true ↦ λ b.
                  let d = known-true z q.numbers y (6 + k) (negsuc 0 -ℤ c) b (omega arith) (omega arith) q.holds in
                  let lt : place < i = omega (arith, ints) in
                  let j : ℕ = i + length new in
                  let gone : pos j -ℤ pos i ≡ pos (length new) = omega (arith, ints) in
                  let back : pos i -ℤ pos j ≡ neg_ℤ (pos (length new)) = omega (arith, ints) in
                  Pushed-shifted k z q i j low high h vi (line_with-inserted_after k ls new place i o.1 (none k) lt)
                  (subst (λ (n : ℤ). Obeys n high) (sym gone) up) (subst (λ (n : ℤ). Obeys n (negative_of low)) (sym back) down)
              | false ↦ λ _.
                  elim (cases_lt place i) [
                    | inl lt ↦
                        let j : ℕ = i + length new in
                        let gone : pos j -ℤ pos i ≡ pos (length new) = omega (arith, ints) in
                        Pushed-shifted k z q i j (Some (pos 0)) high h vi (line_with-inserted_after k ls new place i o.1 (none k) lt)
                        (subst (λ (n : ℤ). Obeys n high) (sym gone) up) (omega (arith, ints))
                    | inr le ↦
                        Pushed-shifted k z q i i (Some (pos 0)) high h vi (line_with-inserted_before k ls new place i o.1 le)
                        (Obeys-less (pos (length new)) _ high up (omega (arith, ints))) (omega (arith, ints))
                  ]
            ]) refl
      ]) refl

  Pushed-all : (zone : Bounds) → Holds zone v → Pushed sure (parts.inserted place new ls) v 26 (for_each_sure (mark_pushed y c low high) sure 26 zone)
  Pushed-all zone holds =
      for_each_sure-by (Pushed sure (parts.inserted place new ls) v) (mark_pushed y c low high) sure zone
      (record { numbers = v; holds = holds; low = λ p h. refl; on_line = λ x h e. absurd (omega arith); rest = λ p h. refl })
      (λ k z h e q. Pushed-step k z h e q)
      (λ k z h e q. Pushed-more sure (parts.inserted place new ls) v k z z q q.numbers q.holds (λ p n. refl) (λ t. let f : false ≡ true = sym e ∙ t in absurd cc))
      26 (omega arith)

  -- what an insertion leaves
  pub record Inserted (zone : Bounds) (current : ℕ) : Type 0 where
    pub numbers : Numbers
    pub buffer : HoldsBy (inserted y c low high sure zone) sure (parts.inserted place new ls) current numbers
    pub others : (p : ℕ) → p < 6 → p ≢ 2 → numbers p ≡ v p

  pub HoldsBy-inserted : (zone : Bounds) (current : ℕ) → place ≤ length ls → HoldsBy zone sure ls current v → Inserted zone current
  unfolding inserted
  HoldsBy-inserted zone current inside b =
      let m = Pushed-all zone b.holds in
      let size : length (parts.inserted place new ls) ≡ length ls + length new = length-inserted ls new place inside in
      let count : ℕ = length (parts.inserted place new ls) in
      let w : Numbers = updated m.numbers 2 (pos count) in
      let m2 : m.numbers 2 ≡ pos (length ls) = m.low 2 (omega arith) ∙ b.reads.last_is in
      let gone : pos count -ℤ m.numbers 2 ≡ pos (length new) = omega (arith, ints) in
      let back : m.numbers 2 -ℤ pos count ≡ neg_ℤ (pos (length new)) = omega (arith, ints) in
      record {
        numbers = w;
        buffer = record {
          holds = Holds-after_shift _ 2 low high m.numbers w (omega arith) m.holds (updated-other m.numbers 2 (pos count))
              (subst (λ (n : ℤ). Obeys n high) (sym gone) up) (subst (λ (n : ℤ). Obeys n (negative_of low)) (sym back) down);
          reads = record {
            zero_is = m.low 0 (omega arith) ∙ b.reads.zero_is;
            current_is = m.low 1 (omega arith) ∙ b.reads.current_is;
            last_is = refl;
            marks_are = λ x h e. let o = m.on_line x h e in reads-OnLine x (parts.inserted place new ls) w (o.0, o.1, updated-other m.numbers 2 (pos count) (6 + x) (omega arith) ∙ o.2);
          };
          inside = let k = b.inside in omega arith;
        };
        others = λ p h n. updated-other m.numbers 2 (pos count) p n ∙ m.low p h;
      }
