-- Replacement of a range by n lines.
use Rattle.std.proofs.Common.{◌≡◌, ◌≢◌, ◌<◌, ◌≤◌, inl, inr, ℕ, zero, suc, ◌+◌, ◌-◌, ℤ, pos, negsuc, ◌-ℤ◌, true, false, cond, List, length, set, get_or, get_or-set_other, Option, None, Some, min, arith, ◌∙◌, ap, refl, sym, subst}
use Rattle.std.proofs.lemmas.Int.{ints}
use Rattle.std.proofs.lemmas.Bool.{cases_eq}
use Rattle.ed_base.specs.Buffer.{Line}
use Rattle.zones.specs.Name.{mark}
use Rattle.std.specs.Prelude.{◌⊎◌}
use Rattle.zones.specs.Bound.{Obeys, negative_of}
use Rattle.zones.specs.Zone.{Bounds, Numbers, Holds, bound, updated}
use Rattle.zones.specs.Steps.{after_shift, after_set, after_guard, after_forget}
use Rattle.zones.proofs.Soundness.{Obeys-bound, Holds-after_shift, Holds-after_set, Holds-after_guard, Holds-after_forget, Obeys-sum_of}
use Rattle.ed_syntax.specs.meaning.Ranges.{Span}
use Rattle.ed_syntax.specs.meaning.States as editor
use Rattle.ed_rules.specs.declared.state.State.{State}
use Rattle.ed_rules.specs.StandsFor.{HoldsBy}
use Rattle.ed_rules.proofs.sound.LettersInLines.{set-off, line_with, line_with-replaced_before, line_with-replaced_after, length-replaced}
use Rattle.ed_rules.proofs.sound.Finishing.{for_each_sure-by}
use Rattle.ed_rules.proofs.sound.Inserting.{OnLine, OnLine-reads, reads-OnLine}
use Rattle.ed_rules.proofs.sound.Following.{FollowedHold}
use Rattle.ed_rules.proofs.sound.ToldApart.{apart-sides}
use Rattle.ed_rules.proofs.sound.Spans.{Ranges, InRange}
use Rattle.zones.specs.Known.{known}
use Rattle.ed_rules.specs.Pieces.{with_zone, guarded_by, is_told_apart, moved_beside, mark_moved, mark_lost, mark_replaced, left_over, current_left, current_replaced, replaced}
use Rattle.ed_rules.specs.Marks.{for_each_sure}
use Rattle.zones.proofs.Known.{updated-same, updated-other, known-true, Obeys-twice_negative}
use Rattle.ed_rules.proofs.Basics.{Obeys-lowered}
use Rattle.ed_base.specs.Parts as parts

-- once the letters below k are done
pub record Passed (s : State) (new_lines : List Line) (v : Numbers) (k : ℕ) (t : State) : Type 0 where
  pub numbers : Numbers
  pub holds : Holds t.zone numbers
  pub low : (p : ℕ) → p < 6 → numbers p ≡ v p
  pub on_line : (x : ℕ) → x < k → get_or t.marks x false ≡ true → OnLine x new_lines numbers
  pub rest : (p : ℕ) → 6 + k ≤ p → numbers p ≡ v p
  pub same_letters : (y : ℕ) → k ≤ y → get_or t.marks y false ≡ get_or s.marks y false
  pub aside : t ≡ record s { zone = t.zone; marks = t.marks }

-- one letter more
pub Passed-more : {s : State} {lines : List Line} {v : Numbers} (k : ℕ) (t u : State) (m : Passed s lines v k t) (w : Numbers) → Holds u.zone w →
    ((p : ℕ) → p ≢ 6 + k → w p ≡ m.numbers p) → ((y : ℕ) → y ≢ k → get_or u.marks y false ≡ get_or t.marks y false) → u ≡ record s { zone = u.zone; marks = u.marks } →
    (get_or u.marks k false ≡ true → OnLine k lines w) → Passed s lines v (suc k) u
Passed-more {s} {lines} {v} k t u m w holds others letters aside there = record {
  numbers = w;
  holds = holds;
  low = λ p h. others p (omega arith) ∙ m.low p h;
  on_line = λ x h e.
      elim (cases_eq x k) [
        | inl q ↦ (let P : ℕ → Type 0 = λ (y : ℕ). get_or u.marks y false ≡ true → OnLine y lines w in subst P (sym q) there) e
        | inr n ↦ let o = m.on_line x (omega arith) (sym (letters x n) ∙ e) in (o.0, o.1, others (6 + x) (omega arith) ∙ o.2)
      ];
  rest = λ p h. others p (omega arith) ∙ m.rest p (omega arith);
  same_letters = λ y h. letters y (omega arith) ∙ m.same_letters y (omega arith);
  aside = aside;
}

-- a letter that may be on another line now is given up
pub Passed-lost : {s : State} {lines : List Line} {v : Numbers} (k : ℕ) (t : State) → k < 26 → Passed s lines v k t → Passed s lines v (suc k) (mark_lost k t)
unfolding mark_lost
Passed-lost k t h m =
    let off : get_or (set t.marks k false) k false ≡ false = set-off t.marks k in
    Passed-more k t (mark_lost k t) m m.numbers (Holds-after_forget t.zone (6 + k) m.numbers m.numbers m.holds (λ p g. refl)) (λ p g. refl)
    (λ y g. get_or-set_other t.marks k y false false g) (ap (λ (q : State). record q { zone = (mark_lost k t).zone; marks = (mark_lost k t).marks }) m.aside)
    (λ g. let f : false ≡ true = sym off ∙ g in absurd cc)

-- a letter's line comes to another number
pub Passed-shifted : {s : State} {lines : List Line} {v : Numbers} (k : ℕ) (t : State) (m : Passed s lines v k t) → (low high : Option ℤ) → (from to : ℕ) → k < 26 →
    m.numbers (6 + k) ≡ pos from → Obeys (pos to -ℤ pos from) high → Obeys (pos from -ℤ pos to) (negative_of low) → line_with k lines ≡ Some to →
    Passed s lines v (suc k) (with_zone (after_shift t.zone (mark k) low high) t)
Passed-shifted k t m low high from to h at up down there =
    let w : Numbers = m.numbers in
    let w' : Numbers = updated w (6 + k) (pos to) in
    let q : w' (6 + k) ≡ pos to = updated-same w (6 + k) (pos to) in
    let u : State = with_zone (after_shift t.zone (mark k) low high) t in
    Passed-more k t u m w'
    (Holds-after_shift t.zone (6 + k) low high w w' (omega arith) m.holds (updated-other w (6 + k) (pos to)) (rw (q, at) up) (rw (q, at) down))
    (updated-other w (6 + k) (pos to)) (λ y g. refl) (ap (λ (q : State). record q { zone = u.zone }) m.aside) (λ _. (to, there, q))

module _ (a b : ℕ) (ls new : List Line) (s : State) (v : Numbers) (ha : 1 ≤ a) (hab : a ≤ b) (va : v 3 ≡ pos a) (vb : v 4 ≡ pos b)
    (inside : b ≤ length ls) (holds : Holds s.zone v) (followed : FollowedHold s v ls)
    (on : (x : ℕ) → x < 26 → get_or s.marks x false ≡ true → OnLine x ls v) (none : (x : ℕ) → line_with x new ≡ None) where
  Passed-moved : (k : ℕ) (t : State) → k < 26 → (m : Passed s (parts.replaced a b new ls) v k t) → (o : OnLine k ls v) → known t.zone 4 (mark k) (negsuc 0) ≡ true →
      Passed s (parts.replaced a b new ls) v (suc k) (mark_moved (length new) k t)
  unfolding mark_moved
  Passed-moved k t h m o e =
      let n : ℕ = length new in
      let w : Numbers = m.numbers in
      let m3 : w 3 ≡ pos a = m.low 3 (omega arith) ∙ va in
      let m4 : w 4 ≡ pos b = m.low 4 (omega arith) ∙ vb in
      let mk : w (6 + k) ≡ pos o.0 = m.rest (6 + k) (omega arith) ∙ o.2 in
      let d = known-true t.zone w 4 (6 + k) (negsuc 0) e (omega arith) (omega arith) m.holds in
      let after : b < o.0 = omega (arith, ints) in
      let to : ℕ = o.0 + length new - (b + 1 - a) in
      let w' : Numbers = updated w (6 + k) (pos to) in
      let q : w' (6 + k) ≡ pos to = updated-same w (6 + k) (pos to) in
      let f1 : Obeys (w 3 -ℤ w 4) (bound t.zone 3 4) = Obeys-bound t.zone 3 4 w (omega arith) (omega arith) m.holds in
      let f2 : Obeys (w 4 -ℤ w 3) (bound t.zone 4 3) = Obeys-bound t.zone 4 3 w (omega arith) (omega arith) m.holds in
      Passed-more k t (mark_moved (length new) k t) m w'
      (Holds-after_shift t.zone (6 + k) _ _ w w' (omega arith) m.holds (updated-other w (6 + k) (pos to))
      (rw (q, mk) (Obeys-sum_of (w 3 -ℤ w 4) (pos n -ℤ pos 1) _ (bound t.zone 3 4) (Some (pos n -ℤ pos 1)) f1 (omega (arith, ints)) (omega (arith, ints))))
      (rw (q, mk) (Obeys-lowered (w 4 -ℤ w 3) (pos n -ℤ pos 1) _ (bound t.zone 4 3) f2 (omega (arith, ints)))))
      (updated-other w (6 + k) (pos to)) (λ y g. refl) (ap (λ (q : State). record q { zone = (mark_moved (length new) k t).zone }) m.aside)
      (λ _. (to, line_with-replaced_after k ls new a b o.0 o.1 (none k) ha hab after, q))

  -- the letter's line is on one side or the other of one line
  beside-at : (k : ℕ) (t : State) → k < 26 → Passed s (parts.replaced a b new ls) v k t → (o : OnLine k ls v) → (to n : ℕ) → line_with k (parts.replaced a b new ls) ≡ Some to →
      (to ≡ o.0) ⊎ (to + 1 ≡ o.0 + n) → Passed s (parts.replaced a b new ls) v (suc k) (with_zone (moved_beside n (mark k) t.zone) t)
  unfolding moved_beside
  beside-at k t h m o to zero there way =
      let d : (to ≤ o.0) × (o.0 ≤ to + 1) = elim way [ inl e ↦ (omega arith, omega arith) | inr e ↦ (omega arith, omega arith) ] in
      Passed-shifted k t m (Some (negsuc 0)) (Some (pos 0)) o.0 to h (m.rest (6 + k) (omega arith) ∙ o.2) (omega (arith, ints)) (omega (arith, ints)) there
  beside-at k t h m o to (suc n) there way =
      let d : (to ≤ o.0 + n) × (o.0 ≤ to) = elim way [ inl e ↦ (omega arith, omega arith) | inr e ↦ (omega arith, omega arith) ] in
      Passed-shifted k t m (Some (pos 0)) (Some (pos n)) o.0 to h (m.rest (6 + k) (omega arith) ∙ o.2) (omega (arith, ints)) (omega (arith, ints)) there

  Passed-beside : (k : ℕ) (t : State) → k < 26 → (m : Passed s (parts.replaced a b new ls) v k t) → (o : OnLine k ls v) → is_told_apart s.zone k t ≡ true →
      Passed s (parts.replaced a b new ls) v (suc k) (with_zone (moved_beside (length new) (mark k) t.zone) t)
  Passed-beside k t h m o e =
      let q = apart-sides s k a b ls v h (ap (is_told_apart s.zone k) (sym m.aside) ∙ e) holds followed va vb ha hab inside o in
      let one = q.0 in
      elim q.1 [
        | inl before ↦ beside-at k t h m o o.0 (length new) (line_with-replaced_before k ls new a b o.0 o.1 before) (inl refl)
        | inr after ↦
            beside-at k t h m o (o.0 + length new - (b + 1 - a)) (length new) (line_with-replaced_after k ls new a b o.0 o.1 (none k) ha hab after)
            (inr (omega arith))
      ]

  Passed-step : (k : ℕ) (t : State) → k < 26 → get_or s.marks k false ≡ true → Passed s (parts.replaced a b new ls) v k t →
      Passed s (parts.replaced a b new ls) v (suc k) (mark_replaced s.zone (length new) k t)
  unfolding mark_replaced mark_lost
  Passed-step k t h e m =
      let o = on k h e in
      let w : Numbers = m.numbers in
      let m3 : w 3 ≡ pos a = m.low 3 (omega arith) ∙ va in
      let mk : w (6 + k) ≡ pos o.0 = m.rest (6 + k) (omega arith) ∙ o.2 in
      let G : State → Type 0 = Passed s (parts.replaced a b new ls) v (suc k) in
      let beside : State = with_zone (moved_beside (length new) (mark k) t.zone) t in
      let rest : State = cond (is_told_apart s.zone k t) beside (mark_lost k t) in
      (elim (known t.zone (mark k) 3 (negsuc 0)) as (λ r. known t.zone (mark k) 3 (negsuc 0) ≡ r → G (cond r t (cond (known t.zone 4 (mark k) (negsuc 0)) (mark_moved (length new) k t) rest))) [
        | true ↦ λ q.
            let d = known-true t.zone w (6 + k) 3 (negsuc 0) q (omega arith) (omega arith) m.holds in
            let before : o.0 < a = omega (arith, ints) in
            Passed-more k t t m w m.holds (λ p g. refl) (λ y g. refl) m.aside (λ _. (o.0, line_with-replaced_before k ls new a b o.0 o.1 before, mk))
        | false ↦ λ _.
            (elim (known t.zone 4 (mark k) (negsuc 0)) as (λ r. known t.zone 4 (mark k) (negsuc 0) ≡ r → G (cond r (mark_moved (length new) k t) rest)) [
              | true ↦ λ q. Passed-moved k t h m o q
              | false ↦ λ _.
                  (elim (is_told_apart s.zone k t) as (λ r. is_told_apart s.zone k t ≡ r → G (cond r beside (mark_lost k t))) [
                    | true ↦ λ q. Passed-beside k t h m o q
                    | false ↦ λ _. Passed-lost k t h m
                  ]) refl
            ]) refl
      ]) refl

  pub Passed-all : Passed s (parts.replaced a b new ls) v 26 (for_each_sure (mark_replaced s.zone (length new)) s.marks 26 s)
  Passed-all =
      for_each_sure-by (Passed s (parts.replaced a b new ls) v) (mark_replaced s.zone (length new)) s.marks s
      (record { numbers = v; holds = holds; low = λ p h. refl; on_line = λ x h e. absurd (omega arith); rest = λ p h. refl; same_letters = λ y h. refl; aside = refl })
      (λ k t h e m. Passed-step k t h e m)
      (λ k t h e m. Passed-more k t t m m.numbers m.holds (λ p g. refl) (λ y g. refl) m.aside
      (λ g. let f : false ≡ true = sym e ∙ sym (m.same_letters k (omega arith)) ∙ g in absurd cc))
      26 (omega arith)

pub Holds-guarded_by : (z : Bounds) (x y : ℕ) (c : Option ℤ) (v : Numbers) → x < 32 → y < 32 → Holds z v → Obeys (v x -ℤ v y) c → Holds (guarded_by z x y c) v
Holds-guarded_by z x y None v hx hy h k = h
Holds-guarded_by z x y (Some c) v hx hy h k = Holds-after_guard z x y c v hx hy h k

updated-updated : (v : Numbers) (x : ℕ) (m n : ℤ) (p : ℕ) → p ≢ x → updated v x n p ≡ updated v x m p
updated-updated v x m n p h = updated-other v x n p h ∙ sym (updated-other v x m p h)

module _ (old z : Bounds) (v₀ v : Numbers) (first last count left : ℕ) (holds_old : Holds old v₀) (f₀ : v₀ 3 ≡ pos first) (l₀ : v₀ 4 ≡ pos last) (c₀ : v₀ 2 ≡ pos count)
    (holds : Holds z v) (vf : v 3 ≡ pos first) (vl : v 4 ≡ pos last) (vc : v 2 ≡ pos count) (hf : 1 ≤ first) (hfl : first ≤ last) (hlc : last ≤ count) (hleft : left + last + 1 ≡ count + first) where
  pub Holds-left_over : Holds (left_over old z) (updated v 5 (pos left))
  unfolding left_over
  Holds-left_over =
      let u : Numbers = updated v 5 (v 2 -ℤ pos 1) in
      let w : Numbers = updated v 5 (pos left) in
      let b : (x y : ℕ) → x < 32 → y < 32 → Obeys (v₀ x -ℤ v₀ y) (bound old x y) = λ x y hx hy. Obeys-bound old x y v₀ hx hy holds_old in
      let hu : Holds (after_set z 5 2 (negsuc 0)) u = Holds-after_set z 5 2 (negsuc 0) v u (omega arith) (omega arith) holds (updated-other v 5 _) (omega (arith, ints)) in
      let hs : Holds (after_shift (after_set z 5 2 (negsuc 0)) 5 (negative_of (bound old 4 3)) (bound old 3 4)) w =
      Holds-after_shift _ 5 _ _ u w (omega arith) hu (updated-updated v 5 _ _)
      (let e : w 5 -ℤ u 5 ≡ v₀ 3 -ℤ v₀ 4 = omega (arith, ints) in rw e (b 3 4 (omega arith) (omega arith)))
      (Obeys-twice_negative (v₀ 4 -ℤ v₀ 3) _ (bound old 4 3) (b 4 3 (omega arith) (omega arith)) (omega (arith, ints))) in
      Holds-guarded_by _ 3 5 _ w (omega arith) (omega arith)
      (Holds-guarded_by _ 5 3 _ w (omega arith) (omega arith) hs
      (Obeys-sum_of (v₀ 2 -ℤ v₀ 4) (negsuc 0) _ (bound old 2 4) (Some (negsuc 0)) (b 2 4 (omega arith) (omega arith)) (omega (arith, ints)) (omega (arith, ints))))
      (Obeys-sum_of (v₀ 4 -ℤ v₀ 2) (pos 1) _ (bound old 4 2) (Some (pos 1)) (b 4 2 (omega arith) (omega arith)) (omega (arith, ints)) (omega (arith, ints)))

abbrev pub current_after : ℕ → ℕ → ℕ → ℕ
current_after zero first left = min first left
current_after (suc n) first left = first + n

Holds-current_left : (z : Bounds) (v : Numbers) (first left : ℕ) → Holds z v → v 3 ≡ pos first → v 5 ≡ pos left → first ≤ left + 1 → Holds (current_left z) (updated v 1 (pos (min first left)))
unfolding current_left
Holds-current_left z v first left holds vf vl h =
    let w : Numbers = updated v 1 (pos (min first left)) in
    (elim (known z 3 5 (pos 0)) as (λ r. known z 3 5 (pos 0) ≡ r → Holds (cond r (after_set z 1 3 (pos 0)) (cond (known z 5 3 (negsuc 0)) (after_set z 1 5 (pos 0)) (after_guard (after_guard (after_guard (after_forget z 1) 3 1 (pos 1)) 1 3 (pos 0)) 1 5 (pos 0)))) w) [
      | true ↦ λ e.
          let d = known-true z v 3 5 (pos 0) e (omega arith) (omega arith) holds in
          let le : first ≤ left = omega (arith, ints) in
          let m : min first left ≡ first = omega arith in
          Holds-after_set z 1 3 (pos 0) v w (omega arith) (omega arith) holds (updated-other v 1 _) (omega (arith, ints))
      | false ↦ λ _.
          (elim (known z 5 3 (negsuc 0)) as (λ r. known z 5 3 (negsuc 0) ≡ r → Holds (cond r (after_set z 1 5 (pos 0)) (after_guard (after_guard (after_guard (after_forget z 1) 3 1 (pos 1)) 1 3 (pos 0)) 1 5 (pos 0))) w) [
            | true ↦ λ e.
                let d = known-true z v 5 3 (negsuc 0) e (omega arith) (omega arith) holds in
                let m : min first left ≡ left = omega (arith, ints) in
                Holds-after_set z 1 5 (pos 0) v w (omega arith) (omega arith) holds (updated-other v 1 _) (omega (arith, ints))
            | false ↦ λ _.
                let m : min first left ≤ first = omega arith in
                let l : min first left ≤ left = omega arith in
                let g : first ≤ min first left + 1 = omega arith in
                Holds-after_guard _ 1 5 (pos 0) w (omega arith) (omega arith)
                (Holds-after_guard _ 1 3 (pos 0) w (omega arith) (omega arith)
                (Holds-after_guard _ 3 1 (pos 1) w (omega arith) (omega arith)
                (Holds-after_forget z 1 v w holds (updated-other v 1 _)) (omega (arith, ints))) (omega (arith, ints))) (omega (arith, ints))
          ]) refl
    ]) refl

pub Holds-current_replaced : (n : ℕ) (z : Bounds) (v : Numbers) (first left : ℕ) → Holds z v → v 3 ≡ pos first → v 5 ≡ pos left → first ≤ left + 1 →
    Holds (current_replaced n z) (updated v 1 (pos (current_after n first left)))
unfolding current_replaced
Holds-current_replaced zero z v first left holds vf vl h = Holds-current_left z v first left holds vf vl h
Holds-current_replaced (suc n) z v first left holds vf vl h =
    Holds-after_set z 1 3 (pos n) v _ (omega arith) (omega arith) holds (updated-other v 1 _) (omega (arith, ints))

current-inside : (n first left current : ℕ) (lines : List Line) → length lines ≡ left + n → current ≡ current_after n first left → first ≤ left + 1 → current ≤ length lines
current-inside zero first left current lines size is h = omega arith
current-inside (suc n) first left current lines size is h = omega arith

-- what a replacement leaves
pub record Replaced (s t : State) (lines : List Line) (current : ℕ) : Type 0 where
  pub numbers : Numbers
  pub aside : t ≡ record s { zone = t.zone; marks = t.marks }
  pub buffer : HoldsBy t.zone t.marks lines current numbers

pub HoldsBy-replaced : (s : State) (e : editor.State) (x : Span) (new : List Line) → InRange e s x → ((y : ℕ) → line_with y new ≡ None) → (current : ℕ) →
    current ≡ current_after (length new) x.first (length e.lines + x.first - (x.last + 1)) →
    Replaced s (replaced (length new) s) (parts.replaced x.first x.last new e.lines) current
unfolding replaced
HoldsBy-replaced s e x new k none current is =
    let r : Ranges s e x = k.0 in
    let first : ℕ = x.first in
    let last : ℕ = x.last in
    let v₀ : Numbers = r.spans.numbers in
    let b₀ = r.spans.stands.buffer in
    let hf = r.from in
    let hfl = r.order in
    let hlc = r.spans.last_in in
    let left : ℕ = length e.lines + first - (last + 1) in
    let n : ℕ = length new in
    let lines : List Line = parts.replaced first last new e.lines in
    let size : length lines ≡ left + n = length-replaced e.lines new first last hf hfl hlc ∙ (omega arith) in
    let m =
    Passed-all first last e.lines new s v₀ hf hfl r.spans.first_is r.spans.last_is hlc b₀.holds k.1
    (λ y h q. OnLine-reads y e.lines v₀ (b₀.reads.marks_are y h q)) none in
    let t : State = for_each_sure (mark_replaced s.zone n) s.marks 26 s in
    let v : Numbers = m.numbers in
    let v5 : Numbers = updated v 5 (pos left) in
    let v1 : Numbers = updated v5 1 (pos current) in
    let v2 : Numbers = updated v1 2 (pos (left + n)) in
    let mf : v 3 ≡ pos first = m.low 3 (omega arith) ∙ r.spans.first_is in
    let ml : v 4 ≡ pos last = m.low 4 (omega arith) ∙ r.spans.last_is in
    let mc : v 2 ≡ pos (length e.lines) = m.low 2 (omega arith) ∙ b₀.reads.last_is in
    let h5 : Holds (left_over s.zone t.zone) v5 = Holds-left_over s.zone t.zone v₀ v first last (length e.lines) left b₀.holds r.spans.first_is r.spans.last_is b₀.reads.last_is m.holds mf ml mc hf hfl hlc (omega arith) in
    let h1 : Holds (current_replaced n (left_over s.zone t.zone)) v1 =
    rw is (Holds-current_replaced n _ v5 first left h5 mf refl (omega arith)) in
    let h2 : Holds (after_set (current_replaced n (left_over s.zone t.zone)) 2 5 (pos n)) v2 = Holds-after_set _ 2 5 (pos n) v1 v2 (omega arith) (omega arith) h1 (updated-other v1 2 _) refl in
    record {
      numbers = v2;
      aside = ap (λ (q : State). record q { zone = after_set (current_replaced n (left_over s.zone t.zone)) 2 5 (pos n) }) m.aside;
      buffer = record {
        holds = h2;
        reads = record {
          zero_is = m.low 0 (omega arith) ∙ b₀.reads.zero_is;
          current_is = refl;
          last_is = ap pos (sym size);
          marks_are = λ y h q. let o = m.on_line y h q in
              reads-OnLine y lines v2 (o.0, o.1, updated-other v1 2 _ (6 + y) (omega arith) ∙ updated-other v5 1 _ (6 + y) (omega arith) ∙ updated-other v 5 _ (6 + y) (omega arith) ∙ o.2);
        };
        inside = current-inside n first left current lines size is (omega arith);
      };
    }
