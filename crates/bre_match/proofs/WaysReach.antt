-- Without back-references the ends of a part's ways are the places that it reaches when its turns are written out.
use Rattle.std.proofs.Common.{◌≡◌, ℕ, zero, suc, ◌+◌, ◌-◌, ◌<◌, ◌≤◌, ◌⊎◌, inl, inr, List, [], ◌∷◌, ◌++◌, map, flat_map, Option, Some, None, Bool, true, false, cond, leb, ltb, eqb, refl, ap, sym, ◌∙◌, subst, arith}
use Rattle.std.proofs.lemmas.Bool.Decides.{nat_tests}
use Rattle.std.specs.Prelude.{◌&&◌}
use Rattle.bre_parse.specs.Groups.{Groups}
use Rattle.bre_parse.specs.Ways.{Way, Body, turns, next_turn, after_turn, stopped_or_on, below, only_if, by_end, insert_way}
use Rattle.bre_match.specs.Laws.{Has}
use Rattle.bre_match.specs.Parts.{Power}
use Rattle.bre_match.specs.Tables.{Within, Turned}

-- Ends in lists

has_before : (q : ℕ) (xs ys : List Way) → Has q xs → Has q (xs ++ ys)
has_before q [] ys h = absurd h
has_before q (x ∷ xs) ys h = elim h [ inl e ↦ inl e | inr i ↦ inr (has_before q xs ys i) ]

has_after : (q : ℕ) (xs ys : List Way) → Has q ys → Has q (xs ++ ys)
has_after q [] ys h = h
has_after q (x ∷ xs) ys h = inr (has_after q xs ys h)

has_either : (q : ℕ) (xs ys : List Way) → Has q (xs ++ ys) → Has q xs ⊎ Has q ys
has_either q [] ys h = inr h
has_either q (x ∷ xs) ys h =
    elim h [ inl e ↦ inl (inl e) | inr i ↦ elim (has_either q xs ys i) [ inl j ↦ inl (inr j) | inr j ↦ inr j ] ]

has_cond : (q : ℕ) (b : Bool) (xs ys : List Way) → Has q xs → Has q ys → Has q (cond b xs ys)
has_cond q true xs ys h i = h
has_cond q false xs ys h i = i

pub has_inserted : (q : ℕ) (w : Way) (vs : List Way) → Has q (w ∷ vs) → Has q (insert_way w vs)
has_inserted q w [] h = h
has_inserted q w (v ∷ vs) h =
    has_cond q (ltb w.0 v.0) (v ∷ insert_way w vs) (w ∷ v ∷ vs)
    (elim h [ inl e ↦ inr (has_inserted q w vs (inl e)) | inr i ↦ elim i [ inl e ↦ inl e | inr j ↦ inr (has_inserted q w vs (inr j)) ] ])
    h

has_of_inserted : (q : ℕ) (w : Way) (vs : List Way) → Has q (insert_way w vs) → Has q (w ∷ vs)
has_of_inserted q w [] h = h
has_of_inserted q w (v ∷ vs) h = by_cases (has_of_inserted q w vs) (ltb w.0 v.0) h
  where
    by_cases : (Has q (insert_way w vs) → Has q (w ∷ vs)) → (b : Bool) → Has q (cond b (v ∷ insert_way w vs) (w ∷ v ∷ vs)) → Has q (w ∷ v ∷ vs)
    by_cases inner true i =
        elim i [ inl e ↦ inr (inl e) | inr j ↦ elim (inner j) [ inl e ↦ inl e | inr k ↦ inr (inr k) ] ]
    by_cases inner false i = i

pub has_sorted : (q : ℕ) (ws : List Way) → Has q ws → Has q (by_end ws)
has_sorted q [] h = h
has_sorted q (w ∷ ws) h =
    has_inserted q w (by_end ws) (elim h [ inl e ↦ inl e | inr i ↦ inr (has_sorted q ws i) ])

pub has_unsorted : (q : ℕ) (ws : List Way) → Has q (by_end ws) → Has q ws
has_unsorted q [] h = h
has_unsorted q (w ∷ ws) h =
    elim (has_of_inserted q w (by_end ws) h) [ inl e ↦ inl e | inr i ↦ inr (has_unsorted q ws i) ]

pub has_through : (q : ℕ) (f : Way → List Way) (ws : List Way) → Has q (flat_map f ws) → (w : Way) × Has w.0 ws × Has q (f w)
has_through q f [] h = absurd h
has_through q f (w ∷ ws) h =
    elim (has_either q (f w) (flat_map f ws) h) [
      | inl i ↦ (w, inl refl, i)
      | inr i ↦ (
          let r = has_through q f ws i in
          (r.0, inr r.1, r.2))
    ]

pub has_by_way : (m q : ℕ) (f : Way → List Way) (ws : List Way) → Has m ws → ((w : Way) → w.0 ≡ m → Has q (f w)) → Has q (flat_map f ws)
has_by_way m q f [] h all = absurd h
has_by_way m q f (w ∷ ws) h all =
    elim h [
      | inl e ↦ has_before q (f w) (flat_map f ws) (all w e)
      | inr i ↦ has_after q (f w) (flat_map f ws) (has_by_way m q f ws i all)
    ]

pub has_mapped : (q : ℕ) (f : Way → Way) (ws : List Way) → ((w : Way) → (f w).0 ≡ w.0) → Has q ws → Has q (map f ws)
has_mapped q f [] same h = h
has_mapped q f (w ∷ ws) same h =
    elim h [ inl e ↦ inl (same w ∙ e) | inr i ↦ inr (has_mapped q f ws same i) ]

pub has_unmapped : (q : ℕ) (f : Way → Way) (ws : List Way) → ((w : Way) → (f w).0 ≡ w.0) → Has q (map f ws) → Has q ws
has_unmapped q f [] same h = h
has_unmapped q f (w ∷ ws) same h =
    elim h [ inl e ↦ inl (sym (same w) ∙ e) | inr i ↦ inr (has_unmapped q f ws same i) ]

pub has_only : (q : ℕ) (b : Bool) (w : Way) → Has q (only_if b w) → (b ≡ true) × (w.0 ≡ q)
has_only q true w h = elim h [ inl e ↦ (refl, e) | inr i ↦ absurd i ]
has_only q false w h = absurd h

pub has_if : (q : ℕ) (b : Bool) (w : Way) → b ≡ true → w.0 ≡ q → Has q (only_if b w)
has_if q true w t e = inl e
has_if q false w t e = absurd (cc)

pub has_next : (q : ℕ) (b : Bool) (body : Body) (p : ℕ) (g : Groups) → Has q (next_turn b body p g) → (b ≡ true) × Has q (body p g)
has_next q true body p g h = (refl, has_unsorted q (body p g) h)
has_next q false body p g h = absurd h

begins_next : (q : ℕ) (b : Bool) (body : Body) (p : ℕ) (g : Groups) → b ≡ true → Has q (body p g) → Has q (next_turn b body p g)
begins_next q true body p g e h = has_sorted q (body p g) h
begins_next q false body p g e h = absurd (cc)

-- Turns

within_zero : (most : Option ℕ) (d : ℕ) → Within most d → Within most (d + 0)
within_zero None d h = tt
within_zero (Some m) d h = omega arith

within_more : (most : Option ℕ) (d k : ℕ) → Within most (d + 1 + k) → Within most (d + suc k)
within_more None d k h = tt
within_more (Some m) d k h = omega arith

pub within_next : (most : Option ℕ) (d : ℕ) → below d most ≡ true → Within most (d + 1)
within_next None d h = tt
within_next (Some m) d h = grind (arith, nat_tests)

pub begins_below : (most : Option ℕ) (d k : ℕ) → Within most (d + suc k) → below d most ≡ true
begins_below None d k h = refl
begins_below (Some m) d k h = grind (arith, nat_tests)

within_less : (most : Option ℕ) (d k : ℕ) → Within most (d + suc k) → Within most (d + k)
within_less None d k h = tt
within_less (Some m) d k h = omega arith

pub within_step : (most : Option ℕ) (d k : ℕ) → Within most (d + suc k) → Within most (d + 1 + k)
within_step None d k h = tt
within_step (Some m) d k h = omega arith

pub turns_reach : (R : ℕ → ℕ → Type 0) (body : Body) → ((p q : ℕ) (g : Groups) → Has q (body p g) → R p q) → (least : ℕ) (most : Option ℕ) (fuel done p q : ℕ) (g : Groups) → Within most done → Has q (turns fuel body least most done p g) → Turned R least most done p q
turns_reach R body all least most zero done p q g in_most h =
    let i = has_only q (leb least done) (p, g) h in
    let e : p ≡ q = i.1 in
    (0, grind (arith, nat_tests, i.0), within_zero most done in_most, e)
turns_reach R body all least most (suc f) done p q g in_most h =
    let again = turns f body least most (done + 1) in
    let begun = next_turn (below done most) body p g in
    elim (has_either q (flat_map (after_turn least done p again) begun) (only_if (leb least done) (p, g)) (has_unsorted q _ h)) [
      | inl i ↦ (
          let r = has_through q (after_turn least done p again) begun i in
          let w = r.0 in
          let n = has_next w.0 (below done most) body p g r.1 in
          follows (λ v on j. turns_reach R body all least most f (done + 1) v.0 q v.1 (within_next most done on) j) (eqb w.0 p && leb least done) w refl n.0 (all p w.0 g n.1) r.2)
      | inr i ↦ stops i
    ]
  where
    stops : Has q (only_if (leb least done) (p, g)) → Turned R least most done p q
    stops i =
        let j = has_only q (leb least done) (p, g) i in
        let e : p ≡ q = j.1 in
        (0, grind (arith, nat_tests, j.0), within_zero most done in_most, e)

    idle_at : (w : Way) → (eqb w.0 p && leb least done) ≡ true → (w.0 ≡ p) × (least ≤ done)
    idle_at w e = (grind (arith, nat_tests), grind (arith, nat_tests))

    follows : ((v : Way) → below done most ≡ true → Has q (turns f body least most (done + 1) v.0 v.1) → Turned R least most (done + 1) v.0 q) → (idle : Bool) → (w : Way) → (eqb w.0 p && leb least done) ≡ idle → below done most ≡ true → R p w.0 → Has q (stopped_or_on idle done (turns f body least most (done + 1)) w) → Turned R least most done p q
    follows next true w flag on r i =
        let a = idle_at w flag in
        let j = has_only q (eqb done 0) w i in
        let e : w.0 ≡ q = j.1 in
        (0, let l = a.1 in omega arith, within_zero most done in_most, sym a.0 ∙ e)
    follows next false w flag on r i =
        let j = next w on i in
        (suc j.0, let l = j.1 in omega arith, within_more most done j.0 j.2, (w.0, r, j.3))

-- one more turn is idle and not needed, or it isn't
idle_or_busy : (m p least done : ℕ) → ((m ≡ p) × (least ≤ done)) ⊎ ((eqb m p && leb least done) ≡ false)
idle_or_busy m p least done = by_cases (eqb m p) (leb least done) refl refl
  where
    by_cases : (a b : Bool) → eqb m p ≡ a → leb least done ≡ b → ((m ≡ p) × (least ≤ done)) ⊎ ((a && b) ≡ false)
    by_cases true true e f = inl (grind (arith, nat_tests), grind (arith, nat_tests))
    by_cases true false e f = inr refl
    by_cases false true e f = inr refl
    by_cases false false e f = inr refl

pub busy_moves : (m p least done : ℕ) → (eqb m p && leb least done) ≡ false → p ≤ m → (p < m) ⊎ (done < least)
busy_moves m p least done e le = by_cases (eqb m p) (leb least done) refl refl e
  where
    by_cases : (a b : Bool) → eqb m p ≡ a → leb least done ≡ b → (a && b) ≡ false → (p < m) ⊎ (done < least)
    by_cases true true e f h = absurd (cc)
    by_cases true false e f h = inr (grind (arith, nat_tests))
    by_cases false b e f h = inl (grind (arith, nat_tests))

pub reach_turns : (R : ℕ → ℕ → Type 0) (body : Body) (n : ℕ) → ((p q : ℕ) → p ≤ n → R p q → (p ≤ q) × (q ≤ n)) → ((p q : ℕ) (g : Groups) → p ≤ n → R p q → Has q (body p g)) → (least : ℕ) (most : Option ℕ) (k fuel done p q : ℕ) (g : Groups) → p ≤ n → suc ((least - done) + (n - p)) ≤ fuel → least ≤ done + k → Within most (done + k) → Power R k p q → Has q (turns fuel body least most done p g)
reach_turns R body n lies all least most k zero done p q g le room need in_most h = absurd (omega arith)
reach_turns R body n lies all least most zero (suc f) done p q g le room need in_most h =
    has_sorted q _ (has_after q (flat_map (after_turn least done p (turns f body least most (done + 1))) (next_turn (below done most) body p g)) (only_if (leb least done) (p, g))
    (has_if q (leb least done) (p, g) (grind (arith, nat_tests)) h))
reach_turns R body n lies all least most (suc k) (suc f) done p q g le room need in_most h =
    elim (idle_or_busy h.0 p least done) [
      | inl i ↦ reach_turns R body n lies all least most k (suc f) done p q g le room (let l = i.1 in omega arith) (within_less most done k in_most)
          (subst (λ m. Power R k m q) i.0 h.2)
      | inr busy ↦ (
          let m = h.0 in
          let inside = lies p h.0 le h.1 in
          let low : p ≤ m = inside.0 in
          let high : m ≤ n = inside.1 in
          let less : suc ((least - (done + 1)) + (n - m)) ≤ f = elim (busy_moves m p least done busy low) [ inl a ↦ omega arith | inr a ↦ omega arith ] in
          has_sorted q _ (has_before q (flat_map (after_turn least done p (turns f body least most (done + 1))) (next_turn (below done most) body p g)) (only_if (leb least done) (p, g))
          (has_by_way m q (after_turn least done p (turns f body least most (done + 1))) (next_turn (below done most) body p g)
          (begins_next m (below done most) body p g (begins_below most done k in_most) (all p m g le h.1))
          (λ w e. goes_on w (eqb w.0 p && leb least done) (ap (λ x. eqb x p && leb least done) e ∙ busy)
          (reach_turns R body n lies all least most k f (done + 1) w.0 q w.1 (omega arith) (rw e less) (omega arith) (within_step most done k in_most) (subst (λ x. Power R k x q) (sym e) h.2))))))
    ]
  where
    goes_on : (w : Way) (idle : Bool) → idle ≡ false → Has q (turns f body least most (done + 1) w.0 w.1) → Has q (stopped_or_on idle done (turns f body least most (done + 1)) w)
    goes_on w true e i = absurd (cc)
    goes_on w false e i = i
