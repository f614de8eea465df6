-- The turns of a repeat, of which none is taken up twice, give the first of the ways of the repeat.
use Rattle.std.proofs.Common.{◌≡◌, ◌⊎◌, inl, inr, ℕ, zero, suc, ◌+◌, ◌-◌, ◌<◌, ◌≤◌, max, List, [], ◌∷◌, ◌++◌, flat_map, length, reverse, Option, None, Bool, true, false, leb, ltb, eqb, refl, ap, sym, ◌∙◌, subst, append_assoc, append-nil, arith}
use Rattle.std.specs.Prelude.{◌&&◌, ◌||◌}
use Rattle.std.proofs.lemmas.Bool.Decides.{nat_tests}
use Rattle.std.proofs.lemmas.Grind.{flat_map-append}
use Rattle.bre_parse.specs.Tree.{Tree}
use Rattle.bre_parse.specs.Groups.{Groups, cleared}
use Rattle.bre_parse.specs.Ways.{Way, Body, ways, turns, enough, fresh_turn, next_turn, after_turn, stopped_or_on, below, only_if, by_end}
use Rattle.bre_parse.specs.Laws.{EndBetween}
use Rattle.bre_parse.proofs.Within.{ways_end_within, in_by_end}
use Rattle.bre_match.specs.declared.turn.Turn.{Turn}
use Rattle.bre_match.specs.declared.turn.Turn.TheVariants as turn
use Rattle.bre_match.specs.declared.turn.Bounds.{Bounds}
use Rattle.bre_match.specs.declared.seen.Mark.{Mark}
use Rattle.bre_match.specs.Alike.{RefersWithin, alike, HasAlike, AreAlike}
use Rattle.bre_match.specs.Keeping.{KeepsFirsts}
use Rattle.bre_match.specs.Narrowing.{weight}
use Rattle.bre_match.specs.Turns.{turn_if, ended_or_next, after_way, rank, same_turn, HasTurn, TakenUp}
use Rattle.bre_match.proofs.Likeness.{both_left, both_right, alike_ends, Covers}
use Rattle.bre_match.proofs.SameWays.{Even, even_at, even_next, even_after, even_fresh, even_ways, alike_flat_map, alike_append, place_alike, covers_more, covers_after, covers_like}
use Rattle.bre_match.proofs.Keeping.{keeps_same, keeps_through, keeps_after, keeps_before, keeps_follow, keeps_by_end, keeps_uncovered, covers_same, covers_all, kept_between}
use Rattle.bre_match.proofs.Tasks.{weight-append}
use Rattle.bre_match.proofs.Turning.{unsorted, turns_from_unsorted, left_ways, flat_map-if, flat_map-flat_map, way_gives, reverse_popped, left_steps, turn_steps, way_steps, way_falls, weight-if, weight-flat_map}

-- what the turns of a repeat of this content give: each body of a turn begins with its groups unset
abbrev fresh : Tree → List ℕ → Body
fresh t s = fresh_turn t (ways t s)

-- what is left to do gives these ways
abbrev gives : Bounds → Tree → List ℕ → Turn → List Way
gives b t s = left_ways b.enough (fresh t s) b.least b.most

-- the ways that the next turns lead to, with so many done, from a place with groups that are unset already
abbrev expanded : Bounds → Tree → List ℕ → ℕ → Body
expanded b t s k p g =
    flat_map (after_turn b.least k p (unsorted (b.enough - (k + 1)) (fresh t s) b.least b.most (k + 1))) (next_turn (ltb k b.enough && below k b.most) (ways t s) p g)

abbrev led_to : Bounds → Tree → List ℕ → Mark → List Way
led_to b t s m = expanded b t s m.done m.way.0 m.way.1

next_fresh : (c : Bool) (t : Tree) (s : List ℕ) (p : ℕ) (g : Groups) → next_turn c (fresh t s) p g ≡ next_turn c (ways t s) p (cleared t g)
next_fresh true t s p g = refl
next_fresh false t s p g = refl

next_gives : (b : Bounds) (t : Tree) (s : List ℕ) (k : ℕ) (w : Way) (n : ℕ) → b.enough - k ≡ n → gives b t s (turn.Next k w) ≡ expanded b t s k w.0 (cleared t w.1) ++ only_if (leb b.least k) w
next_gives b t s k w zero e =
    let none : ltb k b.enough ≡ false = grind (arith, nat_tests) in
    ap (λ n. unsorted n (fresh t s) b.least b.most k w.0 w.1) e
    ∙ sym (ap (λ c. flat_map (after_turn b.least k w.0 (unsorted (b.enough - (k + 1)) (fresh t s) b.least b.most (k + 1))) (next_turn (c && below k b.most) (ways t s) w.0 (cleared t w.1)) ++ only_if (leb b.least k) w) none)
next_gives b t s k w (suc n) e =
    let some : ltb k b.enough ≡ true = grind (arith, nat_tests) in
    let fewer : n ≡ b.enough - (k + 1) = omega (arith, e) in
    ap (λ n. unsorted n (fresh t s) b.least b.most k w.0 w.1) e
    ∙ ap (λ m. flat_map (after_turn b.least k w.0 (unsorted m (fresh t s) b.least b.most (k + 1))) (next_turn (below k b.most) (fresh t s) w.0 w.1) ++ only_if (leb b.least k) w) fewer
    ∙ ap (λ l. flat_map (after_turn b.least k w.0 (unsorted (b.enough - (k + 1)) (fresh t s) b.least b.most (k + 1))) l ++ only_if (leb b.least k) w) (next_fresh (below k b.most) t s w.0 w.1)
    ∙ sym (ap (λ c. flat_map (after_turn b.least k w.0 (unsorted (b.enough - (k + 1)) (fresh t s) b.least b.most (k + 1))) (next_turn (c && below k b.most) (ways t s) w.0 (cleared t w.1)) ++ only_if (leb b.least k) w) some)

begun_give : (b : Bounds) (t : Tree) (s : List ℕ) (k p : ℕ) (begun : List Way) → flat_map (gives b t s) (flat_map (after_way b.least k p) begun) ≡ flat_map (after_turn b.least k p (unsorted (b.enough - (k + 1)) (fresh t s) b.least b.most (k + 1))) begun
begun_give b t s k p begun =
    flat_map-flat_map (gives b t s) (after_way b.least k p) (after_turn b.least k p (unsorted (b.enough - (k + 1)) (fresh t s) b.least b.most (k + 1))) begun
    (λ v. way_gives b.enough (b.enough - (k + 1)) (fresh t s) b.least b.most k v (eqb v.0 p && leb b.least k) refl)

-- Alike ways lead on alike

even_unsorted : (asked : List Bool) (fuel : ℕ) (body : Body) (least : ℕ) (most : Option ℕ) (k : ℕ) → Even asked body → Even asked (unsorted fuel body least most k)
even_unsorted asked zero body least most k even p g h e = even_if (leb least k)
  where
    even_if : (c : Bool) → AreAlike asked (only_if c (p, g)) (only_if c (p, h))
    even_if true = (place_alike asked p g h e, tt)
    even_if false = tt
even_unsorted asked (suc f) body least most k even p g h e =
    alike_append asked _ _ (only_if (leb least k) (p, g)) (only_if (leb least k) (p, h))
    (alike_flat_map asked (after_turn least k p (unsorted f body least most (k + 1))) (after_turn least k p (unsorted f body least most (k + 1))) (next_turn (below k most) body p g) (next_turn (below k most) body p h)
    (even_after asked least k p (unsorted f body least most (k + 1)) (even_unsorted asked f body least most (k + 1) even))
    (even_next asked (below k most) body even p g h e))
    (even_if (leb least k))
  where
    even_if : (c : Bool) → AreAlike asked (only_if c (p, g)) (only_if c (p, h))
    even_if true = (place_alike asked p g h e, tt)
    even_if false = tt

even_expanded : (asked : List Bool) (b : Bounds) (t : Tree) (s : List ℕ) (k : ℕ) → RefersWithin asked t → Even asked (expanded b t s k)
even_expanded asked b t s k r p g h e =
    let more = unsorted (b.enough - (k + 1)) (fresh t s) b.least b.most (k + 1) in
    alike_flat_map asked (after_turn b.least k p more) (after_turn b.least k p more) (next_turn (ltb k b.enough && below k b.most) (ways t s) p g) (next_turn (ltb k b.enough && below k b.most) (ways t s) p h)
    (even_after asked b.least k p more (even_unsorted asked (b.enough - (k + 1)) (fresh t s) b.least b.most (k + 1) (even_fresh asked t (ways t s) (even_ways asked t r s))))
    (even_next asked (ltb k b.enough && below k b.most) (ways t s) (even_ways asked t r s) p g h e)

-- Turns that count as one

same_follow : (low high : ℕ) (f g : Way → List Way) (ws : List Way) → EndBetween low high ws → ((w : Way) → low ≤ w.0 → w.0 ≤ high → f w ≡ g w) → flat_map f ws ≡ flat_map g ws
same_follow low high f g [] h all = refl
same_follow low high f g (w ∷ ws) h all =
    ap (λ first. first ++ flat_map f ws) (all w h.0 h.1) ∙ ap (λ rest. g w ++ rest) (same_follow low high f g ws h.2 all)

next_between : (high : ℕ) (c : Bool) (turn : Body) (p : ℕ) (g : Groups) → EndBetween p high (turn p g) → EndBetween p high (next_turn c turn p g)
next_between high true turn p g h = in_by_end p high (turn p g) h
next_between high false turn p g h = tt

-- after turns that are enough, with more than none done, it doesn't matter how many there were
same_after : (least k l p : ℕ) (again other : Body) (w : Way) → least ≤ k → least ≤ l → 0 < k → 0 < l → p ≤ w.0 → (p < w.0 → again w.0 w.1 ≡ other w.0 w.1) → after_turn least k p again w ≡ after_turn least l p other w
same_after least k l p again other w hk hl pk pl low same =
    let a : leb least k ≡ true = grind (arith, nat_tests) in
    let c : leb least l ≡ true = grind (arith, nat_tests) in
    let d : eqb k 0 ≡ false = grind (arith, nat_tests) in
    let e : eqb l 0 ≡ false = grind (arith, nat_tests) in
    ap (λ x. stopped_or_on (eqb w.0 p && x) k again w) a
    ∙ by_cases (eqb w.0 p) refl d e
    ∙ sym (ap (λ x. stopped_or_on (eqb w.0 p && x) l other w) c)
  where
    by_cases : (i : Bool) → eqb w.0 p ≡ i → eqb k 0 ≡ false → eqb l 0 ≡ false → stopped_or_on (i && true) k again w ≡ stopped_or_on (i && true) l other w
    by_cases true f d e = ap (λ x. only_if x w) d ∙ sym (ap (λ x. only_if x w) e)
    by_cases false f d e = same (grind (arith, nat_tests))

same_turns : (one other high : ℕ) (body : Body) (least k l p : ℕ) (g : Groups) → p ≤ high → high - p < one → high - p < other → least ≤ k → least ≤ l → 0 < k → 0 < l
    → ((q : ℕ) (h : Groups) → q ≤ high → EndBetween q high (body q h)) → unsorted one body least None k p g ≡ unsorted other body least None l p g
same_turns zero other high body least k l p g le fits fits' hk hl pk pl all = absurd (omega arith)
same_turns (suc one) zero high body least k l p g le fits fits' hk hl pk pl all = absurd (omega arith)
same_turns (suc one) (suc other) high body least k l p g le fits fits' hk hl pk pl all =
    let a : leb least k ≡ true = grind (arith, nat_tests) in
    let c : leb least l ≡ true = grind (arith, nat_tests) in
    ap (λ more. more ++ only_if (leb least k) (p, g))
    (same_follow p high (after_turn least k p (unsorted one body least None (k + 1))) (after_turn least l p (unsorted other body least None (l + 1))) (by_end (body p g))
    (in_by_end p high (body p g) (all p g le))
    (λ w low bound. same_after least k l p (unsorted one body least None (k + 1)) (unsorted other body least None (l + 1)) w hk hl pk pl low
    (λ further. same_turns one other high body least (k + 1) (l + 1) w.0 w.1 bound (omega (arith, further, bound, fits)) (omega (arith, further, bound, fits')) (omega (arith, hk)) (omega (arith, hl)) (omega arith) (omega arith) all)))
    ∙ ap (λ x. flat_map (after_turn least l p (unsorted other body least None (l + 1))) (by_end (body p g)) ++ only_if x (p, g)) (a ∙ sym c)

-- in a repeat without a most, enough turns are counted for what is left of the text
abbrev pub HasRoom : Bounds → ℕ → (k p : ℕ) → Type 0
HasRoom b high k p = b.unbounded ≡ true → (b.most ≡ None) × (p ≤ high) × ((b.least - k) + (high - p) < b.enough - k)

same_expanded : (b : Bounds) (t : Tree) (s : List ℕ) (k l p : ℕ) (g : Groups) → b.most ≡ None → p ≤ length s → length s - p < b.enough - k → length s - p < b.enough - l → b.least ≤ k → b.least ≤ l → 0 < k → 0 < l → expanded b t s k p g ≡ expanded b t s l p g
same_expanded b t s k l p g none le fits fits' hk hl pk pl =
    let a : ltb k b.enough ≡ true = grind (arith, nat_tests) in
    let c : ltb l b.enough ≡ true = grind (arith, nat_tests) in
    let N = next_turn true (ways t s) p g in
    let body = fresh t s in
    ap (λ m. flat_map (after_turn b.least k p (unsorted (b.enough - (k + 1)) body b.least m (k + 1))) (next_turn (ltb k b.enough && below k m) (ways t s) p g)) none
    ∙ ap (λ x. flat_map (after_turn b.least k p (unsorted (b.enough - (k + 1)) body b.least None (k + 1))) (next_turn (x && true) (ways t s) p g)) a
    ∙ same_follow p (length s) (after_turn b.least k p (unsorted (b.enough - (k + 1)) body b.least None (k + 1))) (after_turn b.least l p (unsorted (b.enough - (l + 1)) body b.least None (l + 1))) N
    (next_between (length s) true (ways t s) p g (ways_end_within t s p g le))
    (λ w low bound. same_after b.least k l p (unsorted (b.enough - (k + 1)) body b.least None (k + 1)) (unsorted (b.enough - (l + 1)) body b.least None (l + 1)) w hk hl pk pl low
    (λ further. same_turns (b.enough - (k + 1)) (b.enough - (l + 1)) (length s) body b.least (k + 1) (l + 1) w.0 w.1 bound (omega (arith, further, bound, fits)) (omega (arith, further, bound, fits')) (omega (arith, hk)) (omega (arith, hl)) (omega arith) (omega arith)
    (λ q h le'. ways_end_within t s q (cleared t h) le')))
    ∙ sym (ap (λ x. flat_map (after_turn b.least l p (unsorted (b.enough - (l + 1)) body b.least None (l + 1))) (next_turn (x && true) (ways t s) p g)) c)
    ∙ sym (ap (λ m. flat_map (after_turn b.least l p (unsorted (b.enough - (l + 1)) body b.least m (l + 1))) (next_turn (ltb l b.enough && below l m) (ways t s) p g)) none)

abbrev ranked : Bounds → Bool → ℕ → ℕ
ranked b c k = elim c [ true ↦ max b.least 1 | false ↦ k ]

-- two turns of one rank are of the same number, or come after enough of them
pub of_one_rank : (b : Bounds) (k l : ℕ) → rank b k ≡ rank b l → (k ≡ l) ⊎ ((b.unbounded ≡ true) × (b.least ≤ k) × (b.least ≤ l) × (0 < k) × (0 < l))
of_one_rank b k l e = by_cases b.unbounded refl (leb b.least k) refl (ltb 0 k) refl (leb b.least l) refl (ltb 0 l) refl e
  where
    by_cases : (u : Bool) → b.unbounded ≡ u → (x : Bool) → leb b.least k ≡ x → (y : Bool) → ltb 0 k ≡ y → (z : Bool) → leb b.least l ≡ z → (v : Bool) → ltb 0 l ≡ v
        → ranked b (u && (x && y)) (k) ≡ ranked b (u && (z && v)) (l) → (k ≡ l) ⊎ ((b.unbounded ≡ true) × (b.least ≤ k) × (b.least ≤ l) × (0 < k) × (0 < l))
    by_cases false eu x ex y ey z ez v ev e = inl e
    by_cases true eu true ex true ey true ez true ev e = inr (eu, grind (arith, nat_tests), grind (arith, nat_tests), grind (arith, nat_tests), grind (arith, nat_tests))
    by_cases true eu true ex true ey true ez false ev e = absurd (grind (arith, nat_tests))
    by_cases true eu true ex true ey false ez v ev e = absurd (grind (arith, nat_tests))
    by_cases true eu true ex false ey true ez true ev e = absurd (grind (arith, nat_tests))
    by_cases true eu true ex false ey true ez false ev e = inl e
    by_cases true eu true ex false ey false ez v ev e = inl e
    by_cases true eu false ex y ey true ez true ev e = absurd (grind (arith, nat_tests))
    by_cases true eu false ex y ey true ez false ev e = inl e
    by_cases true eu false ex y ey false ez v ev e = inl e

-- what follows a turn that was taken up covers what follows another of its kind
covers_turn : (asked : List Bool) (b : Bounds) (t : Tree) (s : List ℕ) (xs : List Way) (m u : Mark) → RefersWithin asked t → same_turn b asked m u ≡ true → HasRoom b (length s) m.done m.way.0 → HasRoom b (length s) u.done u.way.0 → Covers asked xs (led_to b t s m) → Covers asked xs (led_to b t s u)
covers_turn asked b t s xs m u r e room room' c =
    let ranks : rank b m.done ≡ rank b u.done = (let f = both_left (eqb (rank b m.done) (rank b u.done)) (alike asked m.way u.way) e in grind (arith, nat_tests)) in
    let like = both_right (eqb (rank b m.done) (rank b u.done)) (alike asked m.way u.way) e in
    let even = even_at asked (expanded b t s m.done) (even_expanded asked b t s m.done r) m.way u.way like in
    by_kind (of_one_rank b m.done u.done ranks) (alike_ends asked m.way u.way like) (covers_like asked xs (led_to b t s m) (expanded b t s m.done u.way.0 u.way.1) even c)
  where
    by_kind : (m.done ≡ u.done) ⊎ ((b.unbounded ≡ true) × (b.least ≤ m.done) × (b.least ≤ u.done) × (0 < m.done) × (0 < u.done)) → m.way.0 ≡ u.way.0 → Covers asked xs (expanded b t s m.done u.way.0 u.way.1) → Covers asked xs (led_to b t s u)
    by_kind (inl same) ends i = subst (λ k. Covers asked xs (expanded b t s k u.way.0 u.way.1)) same i
    by_kind (inr kind) ends i =
        let free = kind.0 in
        let hm = kind.1 in
        let hu = kind.2 in
        let one = room free in
        let other = room' free in
        let fits = one.2 in
        let fits' = other.2 in
        subst (λ l. Covers asked xs l) (same_expanded b t s m.done u.done u.way.0 u.way.1 one.0 other.1 (omega (arith, fits, ends)) (omega (arith, fits')) hm hu kind.3 kind.4) i

-- What is left to do after a turn of some kind

-- a turn comes after those of a mark's kind, or a way is handed out
abbrev pub is_later : Bounds → Mark → Turn → Bool
is_later b m (turn.Ended w) = true
is_later b m (turn.Next k w) = ltb (rank b m.done) (rank b k) || (eqb (rank b m.done) (rank b k) && ltb m.way.0 w.0)

-- what is done before the next turn that isn't later than the mark
abbrev pub upper : Bounds → Mark → List Turn → List Turn
upper b m [] = []
upper b m (x ∷ xs) = elim (is_later b m x) [ true ↦ x ∷ upper b m xs | false ↦ [] ]

abbrev pub AllLater : Bounds → Mark → List Turn → Type 0
AllLater b m [] = Unit {0}
AllLater b m (x ∷ xs) = (is_later b m x ≡ true) × AllLater b m xs

upper_later : (b : Bounds) (m : Mark) (xs ys : List Turn) → AllLater b m xs → upper b m (xs ++ ys) ≡ xs ++ upper b m ys
upper_later b m [] ys h = refl
upper_later b m (x ∷ xs) ys h =
    ap (λ c. elim c [ true ↦ x ∷ upper b m (xs ++ ys) | false ↦ [] ]) h.0 ∙ ap (λ l. x ∷ l) (upper_later b m xs ys h.1)

later_append : (b : Bounds) (m : Mark) (xs ys : List Turn) → AllLater b m xs → AllLater b m ys → AllLater b m (xs ++ ys)
later_append b m [] ys h i = i
later_append b m (x ∷ xs) ys h i = (h.0, later_append b m xs ys h.1 i)

later_ended : (b : Bounds) (m : Mark) (c : Bool) (w : Way) → AllLater b m (turn_if c (turn.Ended w))
later_ended b m true w = (refl, tt)
later_ended b m false w = tt

-- what comes later than a later turn is later
later_through : (b : Bounds) (m u : Mark) (x : Turn) → is_later b m (turn.Next u.done u.way) ≡ true → is_later b u x ≡ true → is_later b m x ≡ true
later_through b m u (turn.Ended w) e f = refl
later_through b m u (turn.Next k w) e f =
    by_cases (ltb (rank b m.done) (rank b u.done)) refl (eqb (rank b m.done) (rank b u.done)) refl (ltb m.way.0 u.way.0) refl (ltb (rank b u.done) (rank b k)) refl (eqb (rank b u.done) (rank b k)) refl (ltb u.way.0 w.0) refl (ltb (rank b m.done) (rank b k)) refl (eqb (rank b m.done) (rank b k)) refl (ltb m.way.0 w.0) refl e f
  where
    by_cases : (i : Bool) → ltb (rank b m.done) (rank b u.done) ≡ i → (j : Bool) → eqb (rank b m.done) (rank b u.done) ≡ j → (l : Bool) → ltb m.way.0 u.way.0 ≡ l
        → (o : Bool) → ltb (rank b u.done) (rank b k) ≡ o → (p : Bool) → eqb (rank b u.done) (rank b k) ≡ p → (q : Bool) → ltb u.way.0 w.0 ≡ q
        → (x : Bool) → ltb (rank b m.done) (rank b k) ≡ x → (y : Bool) → eqb (rank b m.done) (rank b k) ≡ y → (z : Bool) → ltb m.way.0 w.0 ≡ z
        → (i || (j && l)) ≡ true → (o || (p && q)) ≡ true → (x || (y && z)) ≡ true
    by_cases i ei j ej l el o eo p ep q eq true ex y ey z ez e f = refl
    by_cases i ei j ej l el o eo p ep q eq false ex true ey true ez e f = refl
    by_cases true ei j ej l el true eo p ep q eq false ex y ey z ez e f = absurd (grind (arith, nat_tests))
    by_cases true ei j ej l el false eo true ep q eq false ex y ey z ez e f = absurd (grind (arith, nat_tests))
    by_cases true ei j ej l el false eo false ep q eq false ex y ey z ez e f = absurd cc
    by_cases false ei false ej l el o eo p ep q eq false ex y ey z ez e f = absurd cc
    by_cases false ei true ej false el o eo p ep q eq false ex y ey z ez e f = absurd cc
    by_cases false ei true ej true el true eo p ep q eq false ex y ey z ez e f = absurd (grind (arith, nat_tests))
    by_cases false ei true ej true el false eo false ep q eq false ex y ey z ez e f = absurd cc
    by_cases false ei true ej true el false eo true ep false eq false ex y ey z ez e f = absurd cc
    by_cases false ei true ej true el false eo true ep true eq false ex true ey false ez e f = absurd (grind (arith, nat_tests))
    by_cases false ei true ej true el false eo true ep true eq false ex false ey z ez e f = absurd (grind (arith, nat_tests))

all_later_through : (b : Bounds) (m u : Mark) (xs : List Turn) → is_later b m (turn.Next u.done u.way) ≡ true → AllLater b u xs → AllLater b m xs
all_later_through b m u [] e h = tt
all_later_through b m u (x ∷ xs) e h = (later_through b m u x e h.0, all_later_through b m u xs e h.1)

-- a turn of a mark's own kind isn't later
not_later : (asked : List Bool) (b : Bounds) (m u : Mark) → same_turn b asked m u ≡ true → is_later b m (turn.Next u.done u.way) ≡ false
not_later asked b m u e =
    let ranks : eqb (rank b m.done) (rank b u.done) ≡ true = both_left (eqb (rank b m.done) (rank b u.done)) (alike asked m.way u.way) e in
    let ends = alike_ends asked m.way u.way (both_right (eqb (rank b m.done) (rank b u.done)) (alike asked m.way u.way) e) in
    let less : ltb (rank b m.done) (rank b u.done) ≡ false = grind (arith, nat_tests) in
    let here : ltb m.way.0 u.way.0 ≡ false = grind (arith, nat_tests, ends) in
    ap (λ x. x || (eqb (rank b m.done) (rank b u.done) && ltb m.way.0 u.way.0)) less
    ∙ ap (λ x. x && ltb m.way.0 u.way.0) ranks
    ∙ here

-- What the search keeps

abbrev pub EachMark : (Mark → Type 0) → List Mark → Type 0
EachMark P [] = Unit {0}
EachMark P (m ∷ ms) = P m × EachMark P ms

abbrev pub EachTurn : Bounds → ℕ → List Turn → Type 0
EachTurn b high [] = Unit {0}
EachTurn b high (turn.Ended w ∷ xs) = EachTurn b high xs
EachTurn b high (turn.Next k w ∷ xs) = HasRoom b high k w.0 × EachTurn b high xs

each_turn_append : (b : Bounds) (high : ℕ) (xs ys : List Turn) → EachTurn b high xs → EachTurn b high ys → EachTurn b high (xs ++ ys)
each_turn_append b high [] ys h i = i
each_turn_append b high (turn.Ended w ∷ xs) ys h i = each_turn_append b high xs ys h i
each_turn_append b high (turn.Next k w ∷ xs) ys h i = (h.0, each_turn_append b high xs ys h.1 i)

each_turn_if : (b : Bounds) (high : ℕ) (c : Bool) (w : Way) → EachTurn b high (turn_if c (turn.Ended w))
each_turn_if b high true w = tt
each_turn_if b high false w = tt

pub each_push : (P : Mark → Type 0) (ms : List Mark) (m : Mark) → EachMark P ms → P m → EachMark P (ms ++ m ∷ [])
each_push P [] m h p = (p, tt)
each_push P (x ∷ ms) m h p = (h.0, each_push P ms m h.1 p)

pub each_map : (P Q : Mark → Type 0) (ms : List Mark) → ((m : Mark) → P m → Q m) → EachMark P ms → EachMark Q ms
each_map P Q [] f h = tt
each_map P Q (m ∷ ms) f h = (f m h.0, each_map P Q ms f h.1)

-- of a turn of a kind that was taken up, one was
pub each_has : (P : Mark → Type 0) (b : Bounds) (asked : List Bool) (ms : List Mark) (u : Mark) → HasTurn b asked ms u → EachMark P ms → (m : Mark) × (same_turn b asked m u ≡ true) × P m
each_has P b asked [] u h i = absurd h
each_has P b asked (m ∷ ms) u (inl e) i = (m, e, i.0)
each_has P b asked (m ∷ ms) u (inr h) i = each_has P b asked ms u h i.1

-- what follows a turn that was taken up is there, or comes before the next turn that isn't later
abbrev pub IsCovered : List Bool → Bounds → Tree → List ℕ → List Way → List Turn → Mark → Type 0
IsCovered asked b t s all left m = HasRoom b (length s) m.done m.way.0 × Covers asked (all ++ flat_map (gives b t s) (upper b m left)) (led_to b t s m)

pub record Merged (asked : List Bool) (b : Bounds) (t : Tree) (s : List ℕ) (whole : List Way) (left : List Turn) (all : List Way) (marks : List Mark) : Type 0 where
  pub kept : KeepsFirsts asked whole (all ++ flat_map (gives b t s) left)
  pub covered : EachMark (IsCovered asked b t s all left) marks
  pub room : EachTurn b (length s) left

pub covers_alone : (asked : List Bool) (xs ws : List Way) → Covers asked (xs ++ []) ws → Covers asked xs ws
covers_alone asked xs ws c = subst (λ l. Covers asked l ws) (append-nil xs) c

-- where some turns take the place of the next one, and keep the first of its ways, what was covered still is
still_covered : (asked : List Bool) (b : Bounds) (t : Tree) (s : List ℕ) (all : List Way) (u : Mark) (front rest : List Turn)
    → ((X : List Turn) → KeepsFirsts asked (all ++ flat_map (gives b t s) (turn.Next u.done u.way ∷ X)) (all ++ flat_map (gives b t s) (front ++ X)))
    → AllLater b u front → (m : Mark) → IsCovered asked b t s all (turn.Next u.done u.way ∷ rest) m → IsCovered asked b t s all (front ++ rest) m
still_covered asked b t s all u front rest keeps later m c = by_cases (is_later b m (turn.Next u.done u.way)) refl c
  where
    F : Turn → List Way
    F = gives b t s

    by_cases : (i : Bool) → is_later b m (turn.Next u.done u.way) ≡ i → IsCovered asked b t s all (turn.Next u.done u.way ∷ rest) m → IsCovered asked b t s all (front ++ rest) m
    by_cases true e c =
        let opened = upper_later b m (turn.Next u.done u.way ∷ []) rest (e, tt) in
        let before : Covers asked (all ++ flat_map F (turn.Next u.done u.way ∷ upper b m rest)) (led_to b t s m) = subst (λ l. Covers asked (all ++ flat_map F l) (led_to b t s m)) opened c.1 in
        let after = covers_same asked (all ++ flat_map F (turn.Next u.done u.way ∷ upper b m rest)) (all ++ flat_map F (front ++ upper b m rest)) (led_to b t s m) (sym (keeps (upper b m rest)).same) before in
        (c.0, subst (λ l. Covers asked (all ++ flat_map F l) (led_to b t s m)) (sym (upper_later b m front rest (all_later_through b m u front e later))) after)
    by_cases false e c =
        let none : upper b m (turn.Next u.done u.way ∷ rest) ≡ [] = ap (λ i. elim i [ true ↦ turn.Next u.done u.way ∷ upper b m rest | false ↦ [] ]) e in
        let alone = covers_alone asked all (led_to b t s m) (subst (λ l. Covers asked (all ++ flat_map F l) (led_to b t s m)) none c.1) in
        (c.0, covers_more asked all (flat_map F (upper b m (front ++ rest))) (led_to b t s m) alone)

-- a turn's ways lie further on, or after more turns

rank_grows : (b : Bounds) (k : ℕ) → rank b k ≤ rank b (k + 1)
rank_grows b k = by_cases b.unbounded (leb b.least k) refl (ltb 0 k) refl (leb b.least (k + 1)) refl (ltb 0 (k + 1)) refl
  where
    by_cases : (u : Bool) → (x : Bool) → leb b.least k ≡ x → (y : Bool) → ltb 0 k ≡ y → (z : Bool) → leb b.least (k + 1) ≡ z → (v : Bool) → ltb 0 (k + 1) ≡ v
        → ranked b (u && (x && y)) (k) ≤ ranked b (u && (z && v)) (k + 1)
    by_cases false x ex y ey z ez v ev = omega arith
    by_cases true true ex true ey true ez true ev = omega arith
    by_cases true true ex true ey true ez false ev = absurd (grind (arith, nat_tests))
    by_cases true true ex true ey false ez v ev = absurd (grind (arith, nat_tests))
    by_cases true true ex false ey true ez true ev = grind (arith, nat_tests)
    by_cases true true ex false ey true ez false ev = omega arith
    by_cases true true ex false ey false ez v ev = omega arith
    by_cases true false ex y ey true ez true ev = grind (arith, nat_tests)
    by_cases true false ex y ey true ez false ev = omega arith
    by_cases true false ex y ey false ez v ev = omega arith

-- one more turn is of the same rank only where enough of them were done
rank_stays : (b : Bounds) (k : ℕ) → rank b (k + 1) ≤ rank b k → (b.unbounded ≡ true) × (b.least ≤ k)
rank_stays b k = by_cases b.unbounded refl (leb b.least k) refl (ltb 0 k) refl (leb b.least (k + 1)) refl (ltb 0 (k + 1)) refl
  where
    by_cases : (u : Bool) → b.unbounded ≡ u → (x : Bool) → leb b.least k ≡ x → (y : Bool) → ltb 0 k ≡ y → (z : Bool) → leb b.least (k + 1) ≡ z → (v : Bool) → ltb 0 (k + 1) ≡ v
        → ranked b (u && (z && v)) (k + 1) ≤ ranked b (u && (x && y)) (k) → (b.unbounded ≡ true) × (b.least ≤ k)
    by_cases false eu x ex y ey z ez v ev le = absurd (omega arith)
    by_cases true eu true ex y ey z ez v ev le = (eu, grind (arith, nat_tests))
    by_cases true eu false ex y ey true ez true ev le = absurd (grind (arith, nat_tests))
    by_cases true eu false ex y ey true ez false ev le = absurd (omega arith)
    by_cases true eu false ex y ey false ez v ev le = absurd (omega arith)

next_is_later : (b : Bounds) (k p : ℕ) (g : Groups) (w : Way) → (b.unbounded ≡ true → p ≤ w.0) → (eqb w.0 p && leb b.least k) ≡ false → is_later b (record { done = k; way = (p, g) }) (turn.Next (k + 1) w) ≡ true
next_is_later b k p g w low idle = by_cases (ltb (rank b k) (rank b (k + 1))) refl (eqb (rank b k) (rank b (k + 1))) refl (ltb p w.0) refl (rank_grows b k) (rank_stays b k)
  where
    by_cases : (i : Bool) → ltb (rank b k) (rank b (k + 1)) ≡ i → (j : Bool) → eqb (rank b k) (rank b (k + 1)) ≡ j → (l : Bool) → ltb p w.0 ≡ l → rank b k ≤ rank b (k + 1) → (rank b (k + 1) ≤ rank b k → (b.unbounded ≡ true) × (b.least ≤ k)) → (i || (j && l)) ≡ true
    by_cases true ei j ej l el grows stays = refl
    by_cases false ei true ej true el grows stays = refl
    by_cases false ei false ej l el grows stays = absurd (grind (arith, nat_tests))
    by_cases false ei true ej false el grows stays =
        let kind = stays (grind (arith, nat_tests)) in
        let le = low kind.0 in
        let at : eqb w.0 p ≡ true = grind (arith, nat_tests) in
        let is : leb b.least k ≡ true = (let h = kind.1 in grind (arith, nat_tests)) in
        absurd (neither (eqb w.0 p) (leb b.least k) at is idle)
      where
        neither : (x y : Bool) → x ≡ true → y ≡ true → (x && y) ≡ false → ⊥
        neither x y e f h = let one = ap (λ c. c && y) e in let other : (x && y) ≡ true = one ∙ f in absurd cc

room_next : (b : Bounds) (high k p : ℕ) (w : Way) → HasRoom b high k p → (b.unbounded ≡ true → (p ≤ w.0) × (w.0 ≤ high)) → (eqb w.0 p && leb b.least k) ≡ false → HasRoom b high (k + 1) w.0
room_next b high k p w room between idle free =
    let r = room free in
    let low = (between free).0 in
    let bound = (between free).1 in
    let fits = r.2 in
    (r.0, bound, by_cases (eqb w.0 p) refl (leb b.least k) refl low bound fits idle)
  where
    by_cases : (x : Bool) → eqb w.0 p ≡ x → (y : Bool) → leb b.least k ≡ y → p ≤ w.0 → w.0 ≤ high → (b.least - k) + (high - p) < b.enough - k → (x && y) ≡ false → (b.least - (k + 1)) + (high - w.0) < b.enough - (k + 1)
    by_cases true ex true ey low bound fits idle = absurd cc
    by_cases true ex false ey low bound fits idle =
        let lt : k < b.least = grind (arith, nat_tests) in omega (arith, lt, low, bound, fits)
    by_cases false ex y ey low bound fits idle =
        let lt : p < w.0 = grind (arith, nat_tests) in omega (arith, lt, bound, fits)

-- what the ways of a turn leave to do comes later, and has room
begun_later : (b : Bounds) (high k p : ℕ) (g : Groups) (begun : List Way) → HasRoom b high k p → (b.unbounded ≡ true → EndBetween p high begun) → AllLater b (record { done = k; way = (p, g) }) (flat_map (after_way b.least k p) begun) × EachTurn b high (flat_map (after_way b.least k p) begun)
begun_later b high k p g [] room between = (tt, tt)
begun_later b high k p g (w ∷ ws) room between =
    let rest = begun_later b high k p g ws room (λ free. (between free).2) in
    let here = by_cases (eqb w.0 p && leb b.least k) refl in
    (later_append b (record { done = k; way = (p, g) }) (after_way b.least k p w) (flat_map (after_way b.least k p) ws) here.0 rest.0, each_turn_append b high (after_way b.least k p w) (flat_map (after_way b.least k p) ws) here.1 rest.1)
  where
    by_cases : (i : Bool) → (eqb w.0 p && leb b.least k) ≡ i → AllLater b (record { done = k; way = (p, g) }) (ended_or_next i k w) × EachTurn b high (ended_or_next i k w)
    by_cases true e = (later_ended b (record { done = k; way = (p, g) }) (eqb k 0) w, each_turn_if b high (eqb k 0) w)
    by_cases false e =
        ((next_is_later b k p g w (λ free. (between free).0) e, tt), (room_next b high k p w room (λ free. ((between free).0, (between free).1)) e, tt))

-- The steps of the search

front_keeps : (asked : List Bool) (b : Bounds) (t : Tree) (s : List ℕ) (all : List Way) (x : Turn) (front : List Turn) → KeepsFirsts asked (gives b t s x) (flat_map (gives b t s) front) → (X : List Turn) → KeepsFirsts asked (all ++ flat_map (gives b t s) (x ∷ X)) (all ++ flat_map (gives b t s) (front ++ X))
front_keeps asked b t s all x front k X =
    let F = gives b t s in
    let rest = flat_map F X in
    subst (λ l. KeepsFirsts asked (all ++ (F x ++ rest)) (all ++ l)) (sym (flat_map-append F front X))
    (keeps_after asked all (F x ++ rest) (flat_map F front ++ rest) (keeps_before asked (F x) (flat_map F front) rest k))

covers_part : (asked : List Bool) (xs ws vs : List Way) → Covers asked xs (ws ++ vs) → Covers asked xs ws
covers_part asked xs [] vs c = tt
covers_part asked xs (w ∷ ws) vs c = (c.0, covers_part asked xs ws vs c.1)

merged_next : (asked : List Bool) (b : Bounds) (t : Tree) (s : List ℕ) (whole all : List Way) (marks : List Mark) (u : Mark) (front rest : List Turn)
    → ((X : List Turn) → KeepsFirsts asked (all ++ flat_map (gives b t s) (turn.Next u.done u.way ∷ X)) (all ++ flat_map (gives b t s) (front ++ X)))
    → AllLater b u front → EachTurn b (length s) front → Merged asked b t s whole (turn.Next u.done u.way ∷ rest) all marks → Merged asked b t s whole (front ++ rest) all marks
merged_next asked b t s whole all marks u front rest keeps later room i = record {
  kept = keeps_through asked whole (all ++ flat_map (gives b t s) (turn.Next u.done u.way ∷ rest)) (all ++ flat_map (gives b t s) (front ++ rest)) i.kept (keeps rest);
  covered = each_map (IsCovered asked b t s all (turn.Next u.done u.way ∷ rest)) (IsCovered asked b t s all (front ++ rest)) marks (still_covered asked b t s all u front rest keeps later) i.covered;
  room = each_turn_append b (length s) front rest room i.room.1;
}

-- where no turn may begin, the repeat only ends here
pub none_begun : (b : Bounds) (asked : List Bool) (may_begin : Bool) (turn : Body) (mark : Mark) (ended : List Turn) (marks : List Mark) (before after : List Turn) → may_begin ≡ false → after ≡ ended ++ before → TakenUp b asked may_begin turn mark ended marks marks before after
none_begun b asked may_begin turn mark ended marks before after e put =
    subst (λ c. TakenUp b asked c turn mark ended marks marks before after) (sym e) (inl ([], keeps_same asked [] [] refl, inl refl, put))

-- a turn that is taken up for the first time
led_on : (asked : List Bool) (b : Bounds) (t : Tree) (s : List ℕ) (whole all : List Way) (marks new : List Mark) (k : ℕ) (w : Way) (begun : List Way) (rest : List Turn) → RefersWithin asked t
    → KeepsFirsts asked (next_turn (ltb k b.enough && below k b.most) (ways t s) w.0 (cleared t w.1)) begun → (new ≡ marks) ⊎ (new ≡ marks ++ record { done = k; way = (w.0, cleared t w.1) } ∷ [])
    → Merged asked b t s whole (turn.Next k w ∷ rest) all marks → Merged asked b t s whole (flat_map (after_way b.least k w.0) begun ++ (turn_if (leb b.least k) (turn.Ended w) ++ rest)) all new
led_on asked b t s whole all marks new k w begun rest r keeps put i =
    subst (λ l. Merged asked b t s whole l all new) (append_assoc children ended rest) (with_marks put)
  where
    F : Turn → List Way
    F = gives b t s

    children : List Turn
    children = flat_map (after_way b.least k w.0) begun

    ended : List Turn
    ended = turn_if (leb b.least k) (turn.Ended w)

    front : List Turn
    front = children ++ ended

    mark : Mark
    mark = record { done = k; way = (w.0, cleared t w.1) }

    further : Body
    further = unsorted (b.enough - (k + 1)) (fresh t s) b.least b.most (k + 1)

    all_turns : List Way
    all_turns = next_turn (ltb k b.enough && below k b.most) (ways t s) w.0 (cleared t w.1)

    stops : List Way
    stops = only_if (leb b.least k) w

    even : Even asked further
    even = even_unsorted asked (b.enough - (k + 1)) (fresh t s) b.least b.most (k + 1) (even_fresh asked t (ways t s) (even_ways asked t r s))

    front_gives : flat_map F front ≡ flat_map (after_turn b.least k w.0 further) begun ++ stops
    front_gives =
        flat_map-append F children ended
        ∙ ap (λ l. l ++ flat_map F ended) (begun_give b t s k w.0 begun)
        ∙ ap (λ l. flat_map (after_turn b.least k w.0 further) begun ++ l) (flat_map-if F (leb b.least k) w refl)

    kept : KeepsFirsts asked (F (turn.Next k w)) (flat_map F front)
    kept =
        subst (λ l. KeepsFirsts asked l (flat_map F front)) (sym (next_gives b t s k w (b.enough - k) refl))
        (subst (λ l. KeepsFirsts asked (led_to b t s mark ++ stops) l) (sym front_gives)
        (keeps_before asked (led_to b t s mark) (flat_map (after_turn b.least k w.0 further) begun) stops
        (keeps_follow asked (after_turn b.least k w.0 further) all_turns begun (even_after asked b.least k w.0 further even) keeps)))

    between : b.unbounded ≡ true → EndBetween w.0 (length s) begun
    between free =
        kept_between asked w.0 (length s) all_turns begun keeps
        (next_between (length s) (ltb k b.enough && below k b.most) (ways t s) w.0 (cleared t w.1) (ways_end_within t s w.0 (cleared t w.1) (i.room.0 free).1))

    later : AllLater b mark children × EachTurn b (length s) children
    later = begun_later b (length s) k w.0 (cleared t w.1) begun i.room.0 between

    front_later : AllLater b mark front
    front_later = later_append b mark children ended later.0 (later_ended b mark (leb b.least k) w)

    merged : Merged asked b t s whole (front ++ rest) all marks
    merged =
        merged_next asked b t s whole all marks (record { done = k; way = w }) front rest (front_keeps asked b t s all (turn.Next k w) front kept) front_later
        (each_turn_append b (length s) children ended later.1 (each_turn_if b (length s) (leb b.least k) w)) i

    covered : Covers asked (all ++ flat_map F (upper b mark (front ++ rest))) (led_to b t s mark)
    covered =
        let whole_turn : Covers asked (flat_map F front) (led_to b t s mark ++ stops) =
        subst (λ l. Covers asked (flat_map F front) l) (next_gives b t s k w (b.enough - k) refl) (covers_all asked (F (turn.Next k w)) (flat_map F front) (sym kept.same)) in
        let here = covers_part asked (flat_map F front) (led_to b t s mark) stops whole_turn in
        let more = covers_more asked (flat_map F front) (flat_map F (upper b mark rest)) (led_to b t s mark) here in
        let at : flat_map F (upper b mark (front ++ rest)) ≡ flat_map F front ++ flat_map F (upper b mark rest) = ap (flat_map F) (upper_later b mark front rest front_later) ∙ flat_map-append F front (upper b mark rest) in
        covers_after asked all (flat_map F (upper b mark (front ++ rest))) (led_to b t s mark) (subst (λ l. Covers asked l (led_to b t s mark)) (sym at) more)

    with_marks : (new ≡ marks) ⊎ (new ≡ marks ++ mark ∷ []) → Merged asked b t s whole (front ++ rest) all new
    with_marks (inl e) = subst (λ l. Merged asked b t s whole (front ++ rest) all l) (sym e) merged
    with_marks (inr e) = subst (λ l. Merged asked b t s whole (front ++ rest) all l) (sym e) (record {
      kept = merged.kept;
      covered = each_push (IsCovered asked b t s all (front ++ rest)) marks mark merged.covered (i.room.0, covered);
      room = merged.room;
    })

-- a turn of a kind that was taken up before
seen_before : (asked : List Bool) (b : Bounds) (t : Tree) (s : List ℕ) (whole all : List Way) (marks : List Mark) (k : ℕ) (w : Way) (rest : List Turn) → RefersWithin asked t → HasTurn b asked marks (record { done = k; way = (w.0, cleared t w.1) })
    → Merged asked b t s whole (turn.Next k w ∷ rest) all marks → Merged asked b t s whole (turn_if (leb b.least k) (turn.Ended w) ++ rest) all marks
seen_before asked b t s whole all marks k w rest r has i =
    merged_next asked b t s whole all marks (record { done = k; way = w }) ended rest keeps (later_ended b mark (leb b.least k) w) (each_turn_if b (length s) (leb b.least k) w) i
  where
    F : Turn → List Way
    F = gives b t s

    ended : List Turn
    ended = turn_if (leb b.least k) (turn.Ended w)

    mark : Mark
    mark = record { done = k; way = (w.0, cleared t w.1) }

    stops : List Way
    stops = only_if (leb b.least k) w

    covered : Covers asked all (led_to b t s mark)
    covered =
        let m = each_has (IsCovered asked b t s all (turn.Next k w ∷ rest)) b asked marks mark has i.covered in
        let none : upper b m.0 (turn.Next k w ∷ rest) ≡ [] = ap (λ x. elim x [ true ↦ turn.Next k w ∷ upper b m.0 rest | false ↦ [] ]) (not_later asked b m.0 mark m.1) in
        let alone = covers_alone asked all (led_to b t s m.0) (subst (λ l. Covers asked (all ++ flat_map F l) (led_to b t s m.0)) none m.2.1) in
        covers_turn asked b t s all m.0 mark r m.1 m.2.0 i.room.0 alone

    keeps : (X : List Turn) → KeepsFirsts asked (all ++ flat_map F (turn.Next k w ∷ X)) (all ++ flat_map F (ended ++ X))
    keeps X =
        let rest' = flat_map F X in
        let before : F (turn.Next k w) ++ rest' ≡ led_to b t s mark ++ (stops ++ rest') = ap (λ l. l ++ rest') (next_gives b t s k w (b.enough - k) refl) ∙ append_assoc (led_to b t s mark) stops rest' in
        let after : flat_map F (ended ++ X) ≡ stops ++ rest' = flat_map-append F ended X ∙ ap (λ l. l ++ rest') (flat_map-if F (leb b.least k) w refl) in
        subst (λ l. KeepsFirsts asked (all ++ l) (all ++ flat_map F (ended ++ X))) (sym before)
        (subst (λ l. KeepsFirsts asked (all ++ (led_to b t s mark ++ (stops ++ rest'))) (all ++ l)) (sym after) (keeps_uncovered asked all (led_to b t s mark) (stops ++ rest') covered))

pub next_merged : (asked : List Bool) (b : Bounds) (t : Tree) (s : List ℕ) (whole all : List Way) (marks marks' : List Mark) (k : ℕ) (w : Way) (left rest new : List Turn) → RefersWithin asked t → left ≡ rest ++ turn.Next k w ∷ []
    → TakenUp b asked (ltb k b.enough && below k b.most) (ways t s) (record { done = k; way = (w.0, cleared t w.1) }) (turn_if (leb b.least k) (turn.Ended w)) marks marks' (reverse rest) (reverse new)
    → Merged asked b t s whole (reverse left) all marks → Merged asked b t s whole (reverse new) all marks'
next_merged asked b t s whole all marks marks' k w left rest new r popped (inl up) i =
    subst (λ l. Merged asked b t s whole l all marks') (sym up.3)
    (led_on asked b t s whole all marks marks' k w up.0 (reverse rest) r up.1 up.2 (subst (λ l. Merged asked b t s whole l all marks) (reverse_popped left rest (turn.Next k w) popped) i))
next_merged asked b t s whole all marks marks' k w left rest new r popped (inr up) i =
    subst (λ l. Merged asked b t s whole l all marks') (sym up.2) (subst (λ l. Merged asked b t s whole (turn_if (leb b.least k) (turn.Ended w) ++ reverse rest) all l) (sym up.1)
    (seen_before asked b t s whole all marks k w (reverse rest) r up.0 (subst (λ l. Merged asked b t s whole l all marks) (reverse_popped left rest (turn.Next k w) popped) i)))

-- a way that is handed out, or left out where one like it was handed out before
pub ended_merged : (asked : List Bool) (b : Bounds) (t : Tree) (s : List ℕ) (whole all new : List Way) (marks : List Mark) (w : Way) (left rest : List Turn) → left ≡ rest ++ turn.Ended w ∷ [] → (new ≡ all ++ w ∷ []) ⊎ ((new ≡ all) × HasAlike asked all w)
    → Merged asked b t s whole (reverse left) all marks → Merged asked b t s whole (reverse rest) new marks
ended_merged asked b t s whole all new marks w left rest popped put i = record {
  kept = keeps_through asked whole (all ++ w ∷ flat_map F (reverse rest)) (new ++ flat_map F (reverse rest)) j.kept (keeps put (reverse rest));
  covered = each_map (IsCovered asked b t s all (turn.Ended w ∷ reverse rest)) (IsCovered asked b t s new (reverse rest)) marks
      (λ m c. (c.0, covers_same asked (all ++ w ∷ flat_map F (upper b m (reverse rest))) (new ++ flat_map F (upper b m (reverse rest))) (led_to b t s m) (sym (keeps put (upper b m (reverse rest))).same) c.1)) j.covered;
  room = j.room;
}
  where
    F : Turn → List Way
    F = gives b t s

    j : Merged asked b t s whole (turn.Ended w ∷ reverse rest) all marks
    j = subst (λ l. Merged asked b t s whole l all marks) (reverse_popped left rest (turn.Ended w) popped) i

    keeps : (new ≡ all ++ w ∷ []) ⊎ ((new ≡ all) × HasAlike asked all w) → (X : List Turn) → KeepsFirsts asked (all ++ w ∷ flat_map F X) (new ++ flat_map F X)
    keeps (inl e) X = keeps_same asked (all ++ w ∷ flat_map F X) (new ++ flat_map F X) (ap (λ l. l ++ flat_map F X) e ∙ append_assoc all (w ∷ []) (flat_map F X))
    keeps (inr h) X = subst (λ l. KeepsFirsts asked (all ++ w ∷ flat_map F X) (l ++ flat_map F X)) (sym h.0) (keeps_uncovered asked all (w ∷ []) (flat_map F X) (h.1, tt))

pub begins_merged : (asked : List Bool) (b : Bounds) (t : Tree) (s : List ℕ) (p : ℕ) (g : Groups) (none left : List Turn) (all : List Way) (marks : List Mark) → HasRoom b (length s) 0 p → none ≡ [] → left ≡ none ++ turn.Next 0 (p, g) ∷ [] → all ≡ [] → marks ≡ []
    → Merged asked b t s (unsorted b.enough (fresh_turn t (ways t s)) b.least b.most 0 p g) (reverse left) all marks
begins_merged asked b t s p g none left all marks room en el ea em =
    let F = gives b t s in
    let whole = unsorted b.enough (fresh t s) b.least b.most 0 p g in
    let l : reverse left ≡ turn.Next 0 (p, g) ∷ [] = ap reverse (el ∙ ap (λ x. x ++ turn.Next 0 (p, g) ∷ []) en) in
    let count : b.enough - 0 ≡ b.enough = omega arith in
    subst (λ ms. Merged asked b t s whole (reverse left) all ms) (sym em) (subst (λ ws. Merged asked b t s whole (reverse left) ws []) (sym ea) (subst (λ ts. Merged asked b t s whole ts [] []) (sym l) (record {
      kept = keeps_same asked whole (F (turn.Next 0 (p, g)) ++ []) (append-nil (F (turn.Next 0 (p, g))) ∙ ap (λ n. unsorted n (fresh t s) b.least b.most 0 p g) count);
      covered = tt;
      room = (room, tt);
    })))

-- with nothing left to do, the ways put in order are the first of the repeat's
pub merged_all : (asked : List Bool) (b : Bounds) (t : Tree) (s : List ℕ) (p : ℕ) (g : Groups) (left : List Turn) (all v out new : List Way) (marks : List Mark) → length left ≡ 0 → b.enough ≡ enough b.least s p
    → Merged asked b t s (unsorted b.enough (fresh_turn t (ways t s)) b.least b.most 0 p g) (reverse left) all marks → v ≡ by_end all → new ≡ out ++ v → KeepsFirsts asked (out ++ turns (enough b.least s p) (fresh_turn t (ways t s)) b.least b.most 0 p g) new
merged_all asked b t s p g (x ∷ left) all v out new marks none count i ev en = absurd (omega arith)
merged_all asked b t s p g [] all v out new marks none count i ev en =
    let whole = unsorted b.enough (fresh t s) b.least b.most 0 p g in
    let kept : KeepsFirsts asked whole all = subst (λ l. KeepsFirsts asked whole l) (append-nil all) i.kept in
    let sorted = keeps_by_end asked whole all kept in
    let is : by_end whole ≡ turns (enough b.least s p) (fresh t s) b.least b.most 0 p g = turns_from_unsorted b.enough (fresh t s) b.least b.most 0 p g ∙ ap (λ n. turns n (fresh t s) b.least b.most 0 p g) count in
    subst (λ l. KeepsFirsts asked (out ++ turns (enough b.least s p) (fresh t s) b.least b.most 0 p g) l) (sym (en ∙ ap (λ l. out ++ l) ev))
    (keeps_after asked out (turns (enough b.least s p) (fresh t s) b.least b.most 0 p g) (by_end all) (subst (λ l. KeepsFirsts asked l (by_end all)) is sorted))

-- The turns that are left get fewer

turn_room : (b : Bounds) (t : Tree) (s : List ℕ) (k : ℕ) (w : Way) (n : ℕ) → b.enough - k ≡ n → weight (λ v. way_steps (turn_steps (b.enough - (k + 1)) (fresh t s) b.least b.most (k + 1)) (eqb v.0 w.0 && leb b.least k) v) (next_turn (ltb k b.enough && below k b.most) (ways t s) w.0 (cleared t w.1)) + 2 ≤ turn_steps n (fresh t s) b.least b.most k w
turn_room b t s k w zero e =
    let none : ltb k b.enough ≡ false = grind (arith, nat_tests) in
    let W : Way → ℕ = λ v. way_steps (turn_steps (b.enough - (k + 1)) (fresh t s) b.least b.most (k + 1)) (eqb v.0 w.0 && leb b.least k) v in
    let h = ap (λ c. weight W (next_turn (c && below k b.most) (ways t s) w.0 (cleared t w.1))) none in
    omega (arith, h)
turn_room b t s k w (suc n) e =
    let some : ltb k b.enough ≡ true = grind (arith, nat_tests) in
    let fewer : b.enough - (k + 1) ≡ n = omega (arith, e) in
    let h = ap (λ c. weight (λ v. way_steps (turn_steps (b.enough - (k + 1)) (fresh t s) b.least b.most (k + 1)) (eqb v.0 w.0 && leb b.least k) v) (next_turn (c && below k b.most) (ways t s) w.0 (cleared t w.1))) some in
    let i = ap (λ l. weight (λ v. way_steps (turn_steps (b.enough - (k + 1)) (fresh t s) b.least b.most (k + 1)) (eqb v.0 w.0 && leb b.least k) v) l) (sym (next_fresh (below k b.most) t s w.0 w.1)) in
    let j = ap (λ m. weight (λ v. way_steps (turn_steps m (fresh t s) b.least b.most (k + 1)) (eqb v.0 w.0 && leb b.least k) v) (next_turn (below k b.most) (fresh t s) w.0 w.1)) fewer in
    omega (arith, h, i, j)

pub next_falls : (asked : List Bool) (b : Bounds) (t : Tree) (s : List ℕ) (marks marks' : List Mark) (k : ℕ) (w : Way) (left rest new : List Turn) → left ≡ rest ++ turn.Next k w ∷ []
    → TakenUp b asked (ltb k b.enough && below k b.most) (ways t s) (record { done = k; way = (w.0, cleared t w.1) }) (turn_if (leb b.least k) (turn.Ended w)) marks marks' (reverse rest) (reverse new)
    → weight (left_steps b.enough (fresh_turn t (ways t s)) b.least b.most) (reverse new) < weight (left_steps b.enough (fresh_turn t (ways t s)) b.least b.most) (reverse left)
next_falls asked b t s marks marks' k w left rest new popped (inl up) =
    let S = left_steps b.enough (fresh t s) b.least b.most in
    let W : Way → ℕ = λ v. way_steps (turn_steps (b.enough - (k + 1)) (fresh t s) b.least b.most (k + 1)) (eqb v.0 w.0 && leb b.least k) v in
    let children = flat_map (after_way b.least k w.0) up.0 in
    let ended = turn_if (leb b.least k) (turn.Ended w) in
    let old : weight S (reverse left) ≡ turn_steps (b.enough - k) (fresh t s) b.least b.most k w + weight S (reverse rest) = ap (weight S) (reverse_popped left rest (turn.Next k w) popped) in
    let is : weight S (reverse new) ≡ weight S children + weight S (ended ++ reverse rest) = ap (weight S) up.3 ∙ weight-append S children (ended ++ reverse rest) in
    let more = weight-append S ended (reverse rest) in
    let few = weight-if S (leb b.least k) (turn.Ended w) refl in
    let each = weight-flat_map S (after_way b.least k w.0) W up.0 (λ v. way_falls b.enough (b.enough - (k + 1)) (fresh t s) b.least b.most k v (eqb v.0 w.0 && leb b.least k) refl) in
    let fewer = up.1.fewer W in
    let room = turn_room b t s k w (b.enough - k) refl in
    omega (arith, old, is, more, few, each, fewer, room)
next_falls asked b t s marks marks' k w left rest new popped (inr up) =
    let S = left_steps b.enough (fresh t s) b.least b.most in
    let ended = turn_if (leb b.least k) (turn.Ended w) in
    let old : weight S (reverse left) ≡ turn_steps (b.enough - k) (fresh t s) b.least b.most k w + weight S (reverse rest) = ap (weight S) (reverse_popped left rest (turn.Next k w) popped) in
    let is : weight S (reverse new) ≡ weight S ended + weight S (reverse rest) = ap (weight S) up.2 ∙ weight-append S ended (reverse rest) in
    let few = weight-if S (leb b.least k) (turn.Ended w) refl in
    let room = turn_room b t s k w (b.enough - k) refl in
    omega (arith, old, is, few, room)
