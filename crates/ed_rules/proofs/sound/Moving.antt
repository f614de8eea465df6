-- Lines that are moved: where each line comes to, and the marks.
use Rattle.std.proofs.Common.{◌≡◌, ◌<◌, ◌≤◌, inl, inr, ℕ, zero, suc, ◌+◌, ◌-◌, ℤ, pos, negsuc, ◌-ℤ◌, Bool, true, false, cond, ◌&&◌, ◌||◌, List, [], ◌∷◌, ◌++◌, length, take, drop, get_or, Option, Some, arith, ◌∙◌, ap, refl, sym, subst, length-append, length-drop}
use Rattle.std.proofs.lemmas.Int.{ints}
use Rattle.std.proofs.lemmas.Bool.{cases_lt, and_parts, or_cases}
use Rattle.std.proofs.lemmas.List.{length-take-le, get_or_append_left, get_or-append_right, get_or-take, get_or-drop}
use Rattle.ed_base.specs.Buffer.{Line, plain_line, has_letter, AtMostOnce}
use Rattle.ed_base.specs.Parts as parts
use Rattle.ed_syntax.specs.meaning.CommandLaws.{WellMarked}
use Rattle.ed_syntax.proofs.meaning.MarkLemmas.{well-carried}
use Rattle.zones.specs.Name.{mark}
use Rattle.zones.specs.Bound.{Obeys, sum_of, negative_of}
use Rattle.zones.specs.Zone.{Bounds, Numbers, Holds, bound, updated}
use Rattle.zones.specs.Steps.{after_shift, after_set, after_forget}
use Rattle.zones.specs.Known.{known, least, greatest}
use Rattle.zones.proofs.Soundness.{Obeys-sum_of, Obeys-bound, Holds-after_shift, Holds-after_set, Holds-after_forget}
use Rattle.zones.proofs.Known.{known-true, updated-same, updated-other, Obeys-twice_negative}
use Rattle.ed_rules.specs.Move.{less, mark_moved_up, moved_up, mark_moved_down, moved_down}
use Rattle.ed_rules.proofs.Basics.{Obeys-lowered}
use Rattle.ed_rules.proofs.sound.LettersInLines.{line_with, one_more, one_more-some, line_with-range, no_letter}
use Rattle.ed_rules.proofs.sound.Finishing.{for_each_sure-by}
use Rattle.ed_rules.proofs.sound.Inserting.{OnLine, Pushed, Pushed-more}

-- where lines come to

module _ (ls : List Line) (a b : ℕ) (ab : a ≤ b) (inside : b ≤ length ls) (d : Line) where
  pub length-rest : length (take a ls ++ ([] ++ drop b ls)) + (b - a) ≡ length ls
  length-rest =
      let t : length (take a ls) ≡ a = length-take-le a ls (omega arith) in
      omega (arith, length-append (take a ls) ([] ++ drop b ls), length-drop b ls)

  pub rest-low : (k : ℕ) → k < a → get_or (take a ls ++ ([] ++ drop b ls)) k d ≡ get_or ls k d
  rest-low k h =
      let t : length (take a ls) ≡ a = length-take-le a ls (omega arith) in
      get_or_append_left (take a ls) ([] ++ drop b ls) d k (omega arith) ∙ get_or-take a ls k d h

  pub rest-high : (k i : ℕ) → a ≤ k → i ≡ k + (b - a) → get_or (take a ls ++ ([] ++ drop b ls)) k d ≡ get_or ls i d
  rest-high k i h e =
      let t : length (take a ls) ≡ a = length-take-le a ls (omega arith) in
      get_or-append_right (take a ls) ([] ++ drop b ls) a k d t h ∙ get_or-drop b ls (k - a) d ∙ ap (λ (n : ℕ). get_or ls n d) (let z : b + (k - a) ≡ i = omega arith in z)

  module _ (place : ℕ) (at : place + (b - a) ≤ length ls) where
    taken_in : place ≤ length (take a ls ++ ([] ++ drop b ls))
    taken_in = let r = length-rest in omega arith

    pub carried-low : (k : ℕ) → k < place → get_or (parts.carried a b place ls) k d ≡ get_or (take a ls ++ ([] ++ drop b ls)) k d
    carried-low k h =
        let r = taken_in in
        let t : length (take place (take a ls ++ ([] ++ drop b ls))) ≡ place = length-take-le place (take a ls ++ ([] ++ drop b ls)) r in
        get_or_append_left (take place (take a ls ++ ([] ++ drop b ls))) (drop a (take b ls) ++ drop place (take a ls ++ ([] ++ drop b ls))) d k (omega arith)
        ∙ get_or-take place (take a ls ++ ([] ++ drop b ls)) k d h

    pub carried-mid : (k i : ℕ) → place ≤ k → k < place + (b - a) → i ≡ a + (k - place) → get_or (parts.carried a b place ls) k d ≡ get_or ls i d
    carried-mid k i h l e =
        let r = taken_in in
        let t : length (take place (take a ls ++ ([] ++ drop b ls))) ≡ place = length-take-le place (take a ls ++ ([] ++ drop b ls)) r in
        let m : length (drop a (take b ls)) ≡ b - a = length-drop a (take b ls) ∙ (let q = length-take-le b ls inside in omega arith) in
        get_or-append_right (take place (take a ls ++ ([] ++ drop b ls))) (drop a (take b ls) ++ drop place (take a ls ++ ([] ++ drop b ls))) place k d t h
        ∙ get_or_append_left (drop a (take b ls)) (drop place (take a ls ++ ([] ++ drop b ls))) d (k - place) (omega arith)
        ∙ get_or-drop a (take b ls) (k - place) d
        ∙ get_or-take b ls (a + (k - place)) d (omega arith)
        ∙ ap (λ (n : ℕ). get_or ls n d) (sym e)

    pub carried-high : (k i : ℕ) → place + (b - a) ≤ k → i ≡ k - (b - a) → get_or (parts.carried a b place ls) k d ≡ get_or (take a ls ++ ([] ++ drop b ls)) i d
    carried-high k i h e =
        let r = taken_in in
        let t : length (take place (take a ls ++ ([] ++ drop b ls))) ≡ place = length-take-le place (take a ls ++ ([] ++ drop b ls)) r in
        let m : length (drop a (take b ls)) ≡ b - a = length-drop a (take b ls) ∙ (let q = length-take-le b ls inside in omega arith) in
        get_or-append_right (take place (take a ls ++ ([] ++ drop b ls))) (drop a (take b ls) ++ drop place (take a ls ++ ([] ++ drop b ls))) place k d t (omega arith)
        ∙ get_or-append_right (drop a (take b ls)) (drop place (take a ls ++ ([] ++ drop b ls))) (b - a) (k - place) d m (omega arith)
        ∙ get_or-drop place (take a ls ++ ([] ++ drop b ls)) (k - place - (b - a)) d
        ∙ ap (λ (n : ℕ). get_or (take a ls ++ ([] ++ drop b ls)) n d) (let z : place + (k - place - (b - a)) ≡ i = omega arith in z)

pub length-carried : (ls : List Line) (a b place : ℕ) → a ≤ b → b ≤ length ls → place + (b - a) ≤ length ls → length (parts.carried a b place ls) ≡ length ls
length-carried ls a b place ab inside at =
    let rest : List Line = take a ls ++ ([] ++ drop b ls) in
    let r = length-rest ls a b ab inside (plain_line []) in
    let t : length (take place rest) ≡ place = length-take-le place rest (omega arith) in
    let m : length (drop a (take b ls)) ≡ b - a = length-drop a (take b ls) ∙ (let q = length-take-le b ls inside in omega arith) in
    omega (arith, length-append (take place rest) (drop a (take b ls) ++ drop place rest), length-append (drop a (take b ls)) (drop place rest), length-drop place rest)

-- a letter that marks one line at most marks the line where it is found
pub line_with-has : (x : ℕ) (ls : List Line) (i : ℕ) → line_with x ls ≡ Some i → has_letter x (get_or ls (i - 1) (plain_line [])) ≡ true
line_with-has x [] i e = cc
line_with-has x (l ∷ ls) i e =
    (elim (has_letter x l) as (λ b. has_letter x l ≡ b → cond b (Some 1) (one_more (line_with x ls)) ≡ Some i → has_letter x (get_or (l ∷ ls) (i - 1) (plain_line [])) ≡ true) [
      | true ↦ λ q k. let one : i ≡ 1 = cc in let z : i - 1 ≡ 0 = omega arith in rw z q
      | false ↦ λ q k.
          let o = one_more-some (line_with x ls) i k in
          let r = line_with-range x ls o.0 o.1 in
          let h = line_with-has x ls o.0 o.1 in
          let z : i - 1 ≡ suc (o.0 - 1) = omega arith in rw z h
    ]) refl e

line_with-some : (x : ℕ) (ls : List Line) (i : ℕ) → has_letter x (get_or ls i (plain_line [])) ≡ true → (j : ℕ) × (line_with x ls ≡ Some j)
line_with-some x [] i e = let f : false ≡ true = sym (no_letter 26 x) ∙ e in absurd cc
line_with-some x (l ∷ ls) zero e = (1, rw e refl)
line_with-some x (l ∷ ls) (suc i) e =
    let later = line_with-some x ls i e in
    elim (has_letter x l) as (λ b. (j : ℕ) × (cond b (Some 1) (one_more (line_with x ls)) ≡ Some j)) [
      | true ↦ (1, refl)
      | false ↦ (later.0 + 1, ap one_more later.1)
    ]

line_with-at : (x : ℕ) (ls : List Line) (i : ℕ) → AtMostOnce ls → has_letter x (get_or ls i (plain_line [])) ≡ true →
    line_with x ls ≡ Some (i + 1)
line_with-at x ls i once e =
    let r = line_with-some x ls i e in
    let range = line_with-range x ls r.0 r.1 in
    let same : r.0 - 1 ≡ i = once x (r.0 - 1) i (line_with-has x ls r.0 r.1) e in
    r.1 ∙ ap Some (omega arith)

-- a letter's line after a move
module _ (ls : List Line) (a b place : ℕ) (ab : a ≤ b) (inside : b ≤ length ls) (at : place + (b - a) ≤ length ls)
    (marked : WellMarked ls) where
  pub line_with-moved : (x i j : ℕ) → line_with x ls ≡ Some i → 1 ≤ j → get_or (parts.carried a b place ls) (j - 1) (plain_line []) ≡ get_or ls (i - 1) (plain_line []) →
      line_with x (parts.carried a b place ls) ≡ Some j
  line_with-moved x i j e one same =
      let has : has_letter x (get_or (parts.carried a b place ls) (j - 1) (plain_line [])) ≡ true = rw same (line_with-has x ls i e) in
      line_with-at x (parts.carried a b place ls) (j - 1) (well-carried a b place ls ab marked).once has ∙ ap Some (omega arith)

  -- up: the place is before the lines
  pub up-above : (x i : ℕ) → line_with x ls ≡ Some i → place ≤ a → i ≤ place → line_with x (parts.carried a b place ls) ≡ Some i
  up-above x i e h k =
      let r = line_with-range x ls i e in
      line_with-moved x i i e r.0 (carried-low ls a b ab inside (plain_line []) place at (i - 1) (omega arith) ∙ rest-low ls a b ab inside (plain_line []) (i - 1) (omega arith))

  pub up-passed : (x i : ℕ) → line_with x ls ≡ Some i → place ≤ a → place < i → i ≤ a → line_with x (parts.carried a b place ls) ≡ Some (i + (b - a))
  up-passed x i e h k l =
      line_with-moved x i (i + (b - a)) e (omega arith)
      (carried-high ls a b ab inside (plain_line []) place at (i + (b - a) - 1) (i - 1) (omega arith) (omega arith) ∙ rest-low ls a b ab inside (plain_line []) (i - 1) (omega arith))

  pub moved-lines : (x i : ℕ) → line_with x ls ≡ Some i → a < i → i ≤ b → line_with x (parts.carried a b place ls) ≡ Some (place + (i - a))
  moved-lines x i e k l =
      line_with-moved x i (place + (i - a)) e (omega arith) (carried-mid ls a b ab inside (plain_line []) place at (place + (i - a) - 1) (i - 1) (omega arith) (omega arith) (omega arith))

  pub up-below : (x i : ℕ) → line_with x ls ≡ Some i → place ≤ a → b < i → line_with x (parts.carried a b place ls) ≡ Some i
  up-below x i e h k =
      let r = line_with-range x ls i e in
      line_with-moved x i i e r.0
      (carried-high ls a b ab inside (plain_line []) place at (i - 1) (i - 1 - (b - a)) (omega arith) refl ∙ rest-high ls a b ab inside (plain_line []) (i - 1 - (b - a)) (i - 1) (omega arith) (omega arith))

  -- down: the place is after them, once they were taken out
  pub down-above : (x i : ℕ) → line_with x ls ≡ Some i → a ≤ place → i ≤ a → line_with x (parts.carried a b place ls) ≡ Some i
  down-above x i e h k =
      let r = line_with-range x ls i e in
      line_with-moved x i i e r.0 (carried-low ls a b ab inside (plain_line []) place at (i - 1) (omega arith) ∙ rest-low ls a b ab inside (plain_line []) (i - 1) (omega arith))

  pub down-passed : (x i : ℕ) → line_with x ls ≡ Some i → a ≤ place → b < i → i ≤ place + (b - a) → line_with x (parts.carried a b place ls) ≡ Some (i - (b - a))
  down-passed x i e h k l =
      line_with-moved x i (i - (b - a)) e (omega arith)
      (carried-low ls a b ab inside (plain_line []) place at (i - (b - a) - 1) (omega arith) ∙ rest-high ls a b ab inside (plain_line []) (i - (b - a) - 1) (i - 1) (omega arith) (omega arith))

  pub down-below : (x i : ℕ) → line_with x ls ≡ Some i → a ≤ place → place + (b - a) < i → line_with x (parts.carried a b place ls) ≡ Some i
  down-below x i e h k =
      let r = line_with-range x ls i e in
      line_with-moved x i i e r.0
      (carried-high ls a b ab inside (plain_line []) place at (i - 1) (i - 1 - (b - a)) (omega arith) refl ∙ rest-high ls a b ab inside (plain_line []) (i - 1 - (b - a)) (i - 1) (omega arith) (omega arith))

-- the marks of a move, letter by letter

shifted-to : (sure : List Bool) (lines : List Line) (u : Numbers) (k : ℕ) (z : Bounds) (q : Pushed sure lines u k z) (i j : ℕ) (lo hi : Option ℤ) → k < 26 → u (6 + k) ≡ pos i →
    line_with k lines ≡ Some j → Obeys (pos j -ℤ pos i) hi → Obeys (pos i -ℤ pos j) (negative_of lo) → Pushed sure lines u (suc k) (after_shift z (mark k) lo hi)
shifted-to sure lines u k z q i j lo hi h ui there above below =
    let w : Numbers = updated q.numbers (6 + k) (pos j) in
    let wj : w (6 + k) ≡ pos j = updated-same q.numbers (6 + k) (pos j) in
    let qi : q.numbers (6 + k) ≡ pos i = q.rest (6 + k) (omega arith) ∙ ui in
    Pushed-more sure lines u k z (after_shift z (mark k) lo hi) q w
    (Holds-after_shift z (6 + k) lo hi q.numbers w (omega arith) q.holds (updated-other q.numbers (6 + k) (pos j)) (rw (wj, qi) above) (rw (wj, qi) below))
    (updated-other q.numbers (6 + k) (pos j)) (λ e. (j, there, wj))

forgotten-to : (sure : List Bool) (lines : List Line) (u : Numbers) (k : ℕ) (z : Bounds) (q : Pushed sure lines u k z) (j : ℕ) → k < 26 →
    line_with k lines ≡ Some j → Pushed sure lines u (suc k) (after_forget z (mark k))
forgotten-to sure lines u k z q j h there =
    let w : Numbers = updated q.numbers (6 + k) (pos j) in
    Pushed-more sure lines u k z (after_forget z (mark k)) q w
    (Holds-after_forget z (6 + k) q.numbers w q.holds (updated-other q.numbers (6 + k) (pos j)))
    (updated-other q.numbers (6 + k) (pos j)) (λ e. (j, there, updated-same q.numbers (6 + k) (pos j)))

kept-at : (sure : List Bool) (lines : List Line) (u : Numbers) (k : ℕ) (z : Bounds) (q : Pushed sure lines u k z) (i : ℕ) → u (6 + k) ≡ pos i →
    line_with k lines ≡ Some i → Pushed sure lines u (suc k) z
kept-at sure lines u k z q i ui there =
    Pushed-more sure lines u k z z q q.numbers q.holds (λ p n. refl) (λ _. (i, there, q.rest (6 + k) (omega arith) ∙ ui))

-- a command's first address is a + 1, its second b, its target t
module _ (ls : List Line) (a b t : ℕ) (ab : a < b) (inside : b ≤ length ls) (marked : WellMarked ls) (sure : List Bool) (before : Bounds)
    (v : Numbers) (holds : Holds before v)
    (v3 : v 3 ≡ pos (a + 1)) (v4 : v 4 ≡ pos b) (v5 : v 5 ≡ pos t) (on : (x : ℕ) → x < 26 → get_or sure x false ≡ true → OnLine x ls v) where
  module _ (up : t ≤ a) where
    up-step : (k : ℕ) (z : Bounds) → k < 26 → get_or sure k false ≡ true → Pushed sure (parts.carried a b t ls) (updated v 1 (pos (t + (b - a)))) k z →
        Pushed sure (parts.carried a b t ls) (updated v 1 (pos (t + (b - a)))) (suc k) (mark_moved_up before k z)
    unfolding mark_moved_up
    up-step k z h e q =
        let o = on k h e in
        let i : ℕ = o.0 in
        let r = line_with-range k ls i o.1 in
        let vi : v (6 + k) ≡ pos i = o.2 in
        let u : Numbers = updated v 1 (pos (t + (b - a))) in
        let ui : u (6 + k) ≡ pos i = updated-other v 1 (pos (t + (b - a))) (6 + k) (omega arith) ∙ vi in
        let N : List Line = parts.carried a b t ls in
        let le : a ≤ b = omega arith in
        let at : t + (b - a) ≤ length ls = omega arith in
        let G : Bounds → Type 0 = Pushed sure N u (suc k) in
        let x : ℕ = mark k in
        let passed : Bounds = after_shift z x (sum_of (least before 4 3) (Some (pos 1))) (sum_of (greatest before 4 3) (Some (pos 1))) in
        let taken : Bounds = after_shift z x (less (pos 1) (greatest before 3 5)) (less (pos 1) (least before 3 5)) in
        let lost : Bounds = after_forget z x in
        (elim (known before x 5 (pos 0) || known before 4 x (negsuc 0)) as (λ c. known before x 5 (pos 0) || known before 4 x (negsuc 0) ≡ c →
        G (cond c z (cond (known before 5 x (negsuc 0) && known before x 3 (negsuc 0)) passed (cond (known before 3 x (pos 0) && known before x 4 (pos 0)) taken lost)))) [
          | true ↦ λ p. elim (or_cases (known before x 5 (pos 0)) (known before 4 x (negsuc 0)) p) [
            | inl y ↦
                let d = known-true before v x 5 (pos 0) y (omega arith) (omega arith) holds in
                kept-at sure N u k z q i ui (up-above ls a b t le inside at marked k i o.1 up (omega (arith, ints)))
            | inr y ↦
                let d = known-true before v 4 x (negsuc 0) y (omega arith) (omega arith) holds in
                kept-at sure N u k z q i ui (up-below ls a b t le inside at marked k i o.1 up (omega (arith, ints)))
          ]
          | false ↦ λ _.
              (elim (known before 5 x (negsuc 0) && known before x 3 (negsuc 0)) as (λ c. known before 5 x (negsuc 0) && known before x 3 (negsuc 0) ≡ c →
              G (cond c passed (cond (known before 3 x (pos 0) && known before x 4 (pos 0)) taken lost))) [
                | true ↦ λ p.
                    let both = and_parts (known before 5 x (negsuc 0)) (known before x 3 (negsuc 0)) p in
                    let d1 = known-true before v 5 x (negsuc 0) both.0 (omega arith) (omega arith) holds in
                    let d2 = known-true before v x 3 (negsuc 0) both.1 (omega arith) (omega arith) holds in
                    let j : ℕ = i + (b - a) in
                    shifted-to sure N u k z q i j (sum_of (least before 4 3) (Some (pos 1))) (sum_of (greatest before 4 3) (Some (pos 1))) h ui
                    (up-passed ls a b t le inside at marked k i o.1 up (omega (arith, ints)) (omega (arith, ints)))
                    (Obeys-sum_of (v 4 -ℤ v 3) (pos 1) (pos j -ℤ pos i) (bound before 4 3) (Some (pos 1)) (Obeys-bound before 4 3 v (omega arith) (omega arith) holds) (omega (arith, ints)) (omega (arith, ints)))
                    (Obeys-lowered (v 3 -ℤ v 4) (pos 1) (pos i -ℤ pos j) (bound before 3 4) (Obeys-bound before 3 4 v (omega arith) (omega arith) holds) (omega (arith, ints)))
                | false ↦ λ _.
                    (elim (known before 3 x (pos 0) && known before x 4 (pos 0)) as (λ c. known before 3 x (pos 0) && known before x 4 (pos 0) ≡ c → G (cond c taken lost)) [
                      | true ↦ λ p.
                          let both = and_parts (known before 3 x (pos 0)) (known before x 4 (pos 0)) p in
                          let d1 = known-true before v 3 x (pos 0) both.0 (omega arith) (omega arith) holds in
                          let d2 = known-true before v x 4 (pos 0) both.1 (omega arith) (omega arith) holds in
                          let j : ℕ = t + (i - a) in
                          let low : a < i = omega (arith, ints) in
                          let high : i ≤ b = omega (arith, ints) in
                          shifted-to sure N u k z q i j (less (pos 1) (greatest before 3 5)) (less (pos 1) (least before 3 5)) h ui
                          (moved-lines ls a b t le inside at marked k i o.1 low high)
                          (Obeys-sum_of (v 5 -ℤ v 3) (pos 1) (pos j -ℤ pos i) (negative_of (negative_of (bound before 5 3))) (Some (pos 1))
                          (Obeys-twice_negative (v 5 -ℤ v 3) (v 5 -ℤ v 3) (bound before 5 3) (Obeys-bound before 5 3 v (omega arith) (omega arith) holds) refl) (omega (arith, ints)) (omega (arith, ints)))
                          (Obeys-lowered (v 3 -ℤ v 5) (pos 1) (pos i -ℤ pos j) (bound before 3 5) (Obeys-bound before 3 5 v (omega arith) (omega arith) holds) (omega (arith, ints)))
                      | false ↦ λ _.
                          elim (cases_lt t i) [
                            | inr y ↦ forgotten-to sure N u k z q i h (up-above ls a b t le inside at marked k i o.1 up y)
                            | inl y ↦ elim (cases_lt a i) [
                              | inr w ↦ forgotten-to sure N u k z q (i + (b - a)) h (up-passed ls a b t le inside at marked k i o.1 up y w)
                              | inl w ↦ elim (cases_lt b i) [
                                | inr s ↦ forgotten-to sure N u k z q (t + (i - a)) h (moved-lines ls a b t le inside at marked k i o.1 w s)
                                | inl s ↦ forgotten-to sure N u k z q i h (up-below ls a b t le inside at marked k i o.1 up s)
                              ]
                            ]
                          ]
                    ]) refl
              ]) refl
        ]) refl

    pub up-all : Pushed sure (parts.carried a b t ls) (updated v 1 (pos (t + (b - a)))) 26 (moved_up sure before)
    unfolding moved_up
    up-all =
        let u : Numbers = updated v 1 (pos (t + (b - a))) in
        let w : Numbers = updated v 1 (pos (t + 1)) in
        let z1 : Bounds = after_set before 1 5 (pos 1) in
        let h1 : Holds z1 w = Holds-after_set before 1 5 (pos 1) v w (omega arith) (omega arith) holds (updated-other v 1 (pos (t + 1))) (omega (arith, ints)) in
        let rise : u 1 -ℤ w 1 ≡ v 4 -ℤ v 3 = omega (arith, ints) in
        let fall : w 1 -ℤ u 1 ≡ v 3 -ℤ v 4 = omega (arith, ints) in
        let h2 : Holds (after_shift z1 1 (least before 4 3) (greatest before 4 3)) u =
        Holds-after_shift z1 1 (least before 4 3) (greatest before 4 3) w u (omega arith) h1 (λ p n. updated-other v 1 (pos (t + (b - a))) p n ∙ sym (updated-other v 1 (pos (t + 1)) p n))
        (subst (λ (d : ℤ). Obeys d (bound before 4 3)) (sym rise) (Obeys-bound before 4 3 v (omega arith) (omega arith) holds))
        (Obeys-twice_negative (v 3 -ℤ v 4) (w 1 -ℤ u 1) (bound before 3 4) (Obeys-bound before 3 4 v (omega arith) (omega arith) holds) fall) in
        for_each_sure-by (Pushed sure (parts.carried a b t ls) u) (mark_moved_up before) sure (after_shift z1 1 (least before 4 3) (greatest before 4 3))
        (record { numbers = u; holds = h2; low = λ p h. refl; on_line = λ x h e. absurd (omega arith); rest = λ p h. refl })
        (λ k z h e q. up-step k z h e q)
        (λ k z h e q. Pushed-more sure (parts.carried a b t ls) u k z z q q.numbers q.holds (λ p n. refl) (λ s. let f : false ≡ true = sym e ∙ s in absurd cc))
        26 (omega arith)

  module _ (down : b < t) (last : t ≤ length ls) where
    down-step : (k : ℕ) (z : Bounds) → k < 26 → get_or sure k false ≡ true → Pushed sure (parts.carried a b (t - (b - a)) ls) (updated v 1 (pos t)) k z →
        Pushed sure (parts.carried a b (t - (b - a)) ls) (updated v 1 (pos t)) (suc k) (mark_moved_down before k z)
    unfolding mark_moved_down
    down-step k z h e q =
        let o = on k h e in
        let i : ℕ = o.0 in
        let r = line_with-range k ls i o.1 in
        let vi : v (6 + k) ≡ pos i = o.2 in
        let u : Numbers = updated v 1 (pos t) in
        let ui : u (6 + k) ≡ pos i = updated-other v 1 (pos t) (6 + k) (omega arith) ∙ vi in
        let place : ℕ = t - (b - a) in
        let N : List Line = parts.carried a b place ls in
        let le : a ≤ b = omega arith in
        let at : place + (b - a) ≤ length ls = omega arith in
        let from : a ≤ place = omega arith in
        let G : Bounds → Type 0 = Pushed sure N u (suc k) in
        let x : ℕ = mark k in
        let passed : Bounds = after_shift z x (less (negsuc 0) (greatest before 4 3)) (less (negsuc 0) (least before 4 3)) in
        let taken : Bounds = after_shift z x (least before 5 4) (greatest before 5 4) in
        let lost : Bounds = after_forget z x in
        (elim (known before x 3 (negsuc 0) || known before 5 x (negsuc 0)) as (λ c. known before x 3 (negsuc 0) || known before 5 x (negsuc 0) ≡ c →
        G (cond c z (cond (known before 4 x (negsuc 0) && known before x 5 (pos 0)) passed (cond (known before 3 x (pos 0) && known before x 4 (pos 0)) taken lost)))) [
          | true ↦ λ p. elim (or_cases (known before x 3 (negsuc 0)) (known before 5 x (negsuc 0)) p) [
            | inl y ↦
                let d = known-true before v x 3 (negsuc 0) y (omega arith) (omega arith) holds in
                kept-at sure N u k z q i ui (down-above ls a b place le inside at marked k i o.1 from (omega (arith, ints)))
            | inr y ↦
                let d = known-true before v 5 x (negsuc 0) y (omega arith) (omega arith) holds in
                kept-at sure N u k z q i ui
                (down-below ls a b place le inside at marked k i o.1 from (let l : t < i = omega (arith, ints) in omega arith))
          ]
          | false ↦ λ _.
              (elim (known before 4 x (negsuc 0) && known before x 5 (pos 0)) as (λ c. known before 4 x (negsuc 0) && known before x 5 (pos 0) ≡ c →
              G (cond c passed (cond (known before 3 x (pos 0) && known before x 4 (pos 0)) taken lost))) [
                | true ↦ λ p.
                    let both = and_parts (known before 4 x (negsuc 0)) (known before x 5 (pos 0)) p in
                    let d1 = known-true before v 4 x (negsuc 0) both.0 (omega arith) (omega arith) holds in
                    let d2 = known-true before v x 5 (pos 0) both.1 (omega arith) (omega arith) holds in
                    let j : ℕ = i - (b - a) in
                    let low : b < i = omega (arith, ints) in
                    let high : i ≤ t = omega (arith, ints) in
                    shifted-to sure N u k z q i j (less (negsuc 0) (greatest before 4 3)) (less (negsuc 0) (least before 4 3)) h ui
                    (down-passed ls a b place le inside at marked k i o.1 from low (omega arith))
                    (Obeys-sum_of (v 3 -ℤ v 4) (negsuc 0) (pos j -ℤ pos i) (negative_of (negative_of (bound before 3 4))) (Some (negsuc 0))
                    (Obeys-twice_negative (v 3 -ℤ v 4) (v 3 -ℤ v 4) (bound before 3 4) (Obeys-bound before 3 4 v (omega arith) (omega arith) holds) refl) (omega (arith, ints)) (omega (arith, ints)))
                    (Obeys-lowered (v 4 -ℤ v 3) (negsuc 0) (pos i -ℤ pos j) (bound before 4 3) (Obeys-bound before 4 3 v (omega arith) (omega arith) holds) (omega (arith, ints)))
                | false ↦ λ _.
                    (elim (known before 3 x (pos 0) && known before x 4 (pos 0)) as (λ c. known before 3 x (pos 0) && known before x 4 (pos 0) ≡ c → G (cond c taken lost)) [
                      | true ↦ λ p.
                          let both = and_parts (known before 3 x (pos 0)) (known before x 4 (pos 0)) p in
                          let d1 = known-true before v 3 x (pos 0) both.0 (omega arith) (omega arith) holds in
                          let d2 = known-true before v x 4 (pos 0) both.1 (omega arith) (omega arith) holds in
                          let j : ℕ = place + (i - a) in
                          let low : a < i = omega (arith, ints) in
                          let high : i ≤ b = omega (arith, ints) in
                          let up : pos j -ℤ pos i ≡ v 5 -ℤ v 4 = omega (arith, ints) in
                          shifted-to sure N u k z q i j (least before 5 4) (greatest before 5 4) h ui
                          (moved-lines ls a b place le inside at marked k i o.1 low high)
                          (subst (λ (d : ℤ). Obeys d (bound before 5 4)) (sym up) (Obeys-bound before 5 4 v (omega arith) (omega arith) holds))
                          (Obeys-twice_negative (v 4 -ℤ v 5) (pos i -ℤ pos j) (bound before 4 5) (Obeys-bound before 4 5 v (omega arith) (omega arith) holds) (omega (arith, ints)))
                      | false ↦ λ _.
                          elim (cases_lt a i) [
                            | inr y ↦ forgotten-to sure N u k z q i h (down-above ls a b place le inside at marked k i o.1 from y)
                            | inl y ↦ elim (cases_lt b i) [
                              | inr w ↦ forgotten-to sure N u k z q (place + (i - a)) h
                                  (moved-lines ls a b place le inside at marked k i o.1 y w)
                              | inl w ↦ elim (cases_lt t i) [
                                | inr s ↦ forgotten-to sure N u k z q (i - (b - a)) h
                                    (down-passed ls a b place le inside at marked k i o.1 from w (omega arith))
                                | inl s ↦ forgotten-to sure N u k z q i h
                                    (down-below ls a b place le inside at marked k i o.1 from (omega arith))
                              ]
                            ]
                          ]
                    ]) refl
              ]) refl
        ]) refl

    pub down-all : Pushed sure (parts.carried a b (t - (b - a)) ls) (updated v 1 (pos t)) 26 (moved_down sure before)
    unfolding moved_down
    down-all =
        let u : Numbers = updated v 1 (pos t) in
        let h1 : Holds (after_set before 1 5 (pos 0)) u = Holds-after_set before 1 5 (pos 0) v u (omega arith) (omega arith) holds (updated-other v 1 (pos t)) (omega (arith, ints)) in
        for_each_sure-by (Pushed sure (parts.carried a b (t - (b - a)) ls) u) (mark_moved_down before) sure (after_set before 1 5 (pos 0))
        (record { numbers = u; holds = h1; low = λ p h. refl; on_line = λ x h e. absurd (omega arith); rest = λ p h. refl })
        (λ k z h e q. down-step k z h e q)
        (λ k z h e q. Pushed-more sure (parts.carried a b (t - (b - a)) ls) u k z z q q.numbers q.holds (λ p n. refl) (λ s. let f : false ≡ true = sym e ∙ s in absurd cc))
        26 (omega arith)
