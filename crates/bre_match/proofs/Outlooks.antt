-- A search that keeps no order: where nothing is left, nothing comes of the start, nor of what was taken up.
use Rattle.std.proofs.Common.{◌≡◌, ◌⊎◌, inl, inr, ℕ, zero, suc, ◌+◌, ◌<◌, ◌≤◌, List, [], ◌∷◌, ◌++◌, map, flat_map, length, drop, Option, None, Bool, true, false, leb, eqb, refl, ap, sym, ◌∙◌, subst, arith}
use Rattle.std.specs.Prelude.{◌&&◌}
use Rattle.std.proofs.lemmas.Bool.Decides.{nat_tests}
use Rattle.bre_parse.specs.declared.tree.Node.{Node}
use Rattle.bre_parse.specs.Tree.{Tree, Empty, Then, Set, TextStart, TextEnd, BackReference, Group, Repeat, sequence_of}
use Rattle.bre_parse.specs.Groups.{cleared}
use Rattle.bre_parse.specs.Ways.{Way, ways, next_turn, below, by_end}
use Rattle.bre_match.specs.declared.seen.Mark.{Mark}
use Rattle.bre_match.specs.declared.turn.Turn.{Turn}
use Rattle.bre_match.specs.declared.turn.Turn.TheVariants as turn
use Rattle.bre_match.specs.Alike.{RefersWithin, alike, AreAlike}
use Rattle.bre_match.specs.Outlooks.{Stage, Before, Within, Begun, first_part, after_begun, ended_or_begun, next_stages, Each, HasItem, NothingWithin}
use Rattle.bre_match.specs.Turns.{turn_if, ended_or_next, after_way}
use Rattle.bre_match.proofs.Asking.{rest_within}
use Rattle.bre_match.proofs.Likeness.{alike_ends, alike_groups, alike_made}
use Rattle.bre_match.proofs.SameWays.{even_at, even_next, even_ways, same_cleared}
use Rattle.bre_match.proofs.Each.{each_map}

-- Within fewer steps nothing comes either

pub fewer : (items : List Node) (at : ℕ) (s : List ℕ) (n : ℕ) (x : Stage) → NothingWithin (suc n) items at s x
    → NothingWithin n items at s x
fewer items at s zero x h = tt
fewer items at s (suc n) x h =
    (h.0, each_map (NothingWithin (suc n) items at s) (NothingWithin n items at s) (next_stages items at s x) (fewer items at s n) h.1)

-- Numbers of turns that count as one

abbrev pub Kin : Tree → ℕ → ℕ → Type 0
Kin (Repeat least most content) k l = (k ≡ l) ⊎ ((most ≡ None) × (least ≤ k) × (least ≤ l) × (0 < k) × (0 < l))
Kin _ k l = k ≡ l

kin_enough : (least : ℕ) (most : Option ℕ) (t : Tree) (k l : ℕ) → Kin (Repeat least most t) k l → leb least k ≡ leb least l
kin_enough least most t k l (inl e) = ap (leb least) e
kin_enough least most t k l (inr h) = let a = h.1 in let b = h.2 in grind (arith, nat_tests)

kin_first : (least : ℕ) (most : Option ℕ) (t : Tree) (k l : ℕ) → Kin (Repeat least most t) k l → eqb k 0 ≡ eqb l 0
kin_first least most t k l (inl e) = ap (λ n. eqb n 0) e
kin_first least most t k l (inr h) = let a = h.3 in let b = h.4 in grind (arith, nat_tests)

kin_below : (least : ℕ) (most : Option ℕ) (t : Tree) (k l : ℕ) → Kin (Repeat least most t) k l → below k most ≡ below l most
kin_below least most t k l (inl e) = ap (λ n. below n most) e
kin_below least most t k l (inr h) = ap (below k) h.0 ∙ sym (ap (below l) h.0)

kin_next : (least : ℕ) (most : Option ℕ) (t : Tree) (k l : ℕ) → Kin (Repeat least most t) k l → Kin (Repeat least most t)
    (k + 1) (l + 1)
kin_next least most t k l (inl e) = inl (ap (λ n. n + 1) e)
kin_next least most t k l (inr h) =
    let a = h.1 in let b = h.2 in inr (h.0, omega (arith, a), omega (arith, b), omega arith, omega arith)

-- Stages of which the same comes

abbrev pub SameLeft : List Bool → Tree → Turn → Turn → Type 0
SameLeft asked r (turn.Ended v) (turn.Ended w) = alike asked v w ≡ true
SameLeft asked r (turn.Next k v) (turn.Next l w) = Kin r k l × (alike asked v w ≡ true)
SameLeft asked r _ _ = ⊥

abbrev pub Same : List Bool → Tree → Stage → Stage → Type 0
Same asked r (Before i v) (Before j w) = (i ≡ j) × (alike asked v w ≡ true)
Same asked r (Within x) (Within y) = SameLeft asked r x y
Same asked r (Begun m) (Begun u) = Kin r m.done u.done × (alike asked m.way u.way ≡ true)
Same asked r _ _ = ⊥

abbrev pub Pairs : {X : Type 0} → (X → X → Type 0) → List X → List X → Type 0
Pairs R [] [] = Unit {0}
Pairs R (x ∷ xs) (y ∷ ys) = R x y × Pairs R xs ys
Pairs R _ _ = ⊥

pairs_append : {X : Type 0} (R : X → X → Type 0) (xs us ys vs : List X) → Pairs R xs us → Pairs R ys vs → Pairs R
    (xs ++ ys) (us ++ vs)
pairs_append R [] [] ys vs h i = i
pairs_append R [] (u ∷ us) ys vs h i = absurd h
pairs_append R (x ∷ xs) [] ys vs h i = absurd h
pairs_append R (x ∷ xs) (u ∷ us) ys vs h i = (h.0, pairs_append R xs us ys vs h.1 i)

pairs_within : (asked : List Bool) (r : Tree) (xs ys : List Turn) → Pairs (SameLeft asked r) xs ys
    → Pairs (Same asked r) (map Within xs) (map Within ys)
pairs_within asked r [] [] h = tt
pairs_within asked r [] (y ∷ ys) h = absurd h
pairs_within asked r (x ∷ xs) [] h = absurd h
pairs_within asked r (x ∷ xs) (y ∷ ys) h = (h.0, pairs_within asked r xs ys h.1)

pairs_before : (asked : List Bool) (r : Tree) (i : ℕ) (vs ws : List Way) → AreAlike asked vs ws
    → Pairs (Same asked r) (map (Before i) vs) (map (Before i) ws)
pairs_before asked r i [] [] h = tt
pairs_before asked r i [] (w ∷ ws) h = absurd h
pairs_before asked r i (v ∷ vs) [] h = absurd h
pairs_before asked r i (v ∷ vs) (w ∷ ws) h = ((refl, h.0), pairs_before asked r i vs ws h.1)

pairs_if : (asked : List Bool) (r : Tree) (c d : Bool) (v w : Way) → c ≡ d → alike asked v w ≡ true
    → Pairs (SameLeft asked r) (turn_if c (turn.Ended v)) (turn_if d (turn.Ended w))
pairs_if asked r true true v w e f = (f, tt)
pairs_if asked r false false v w e f = tt
pairs_if asked r true false v w e f = absurd cc
pairs_if asked r false true v w e f = absurd cc

pub one_after : (asked : List Bool) (least : ℕ) (most : Option ℕ) (t : Tree) (k l p q : ℕ) (v w : Way) → Kin
    (Repeat least most t) k l → p ≡ q
    → alike asked v w ≡ true → Pairs (SameLeft asked (Repeat least most t)) (after_way least k p v) (after_way least l q w)
one_after asked least most t k l p q v w kin e f =
    by_cases (eqb v.0 p && leb least k) (eqb w.0 q && leb least l)
    (ap (λ n. eqb n p && leb least k) (alike_ends asked v w f) ∙ ap (λ n. eqb w.0 n && leb least k) e
    ∙ ap (λ b. eqb w.0 q && b) (kin_enough least most t k l kin))
  where
    r : Tree
    r = Repeat least most t

    by_cases : (c d : Bool) → c ≡ d → Pairs (SameLeft asked r) (ended_or_next c k v) (ended_or_next d l w)
    by_cases true true g = pairs_if asked r (eqb k 0) (eqb l 0) v w (kin_first least most t k l kin) f
    by_cases false false g = ((kin_next least most t k l kin, f), tt)
    by_cases true false g = absurd cc
    by_cases false true g = absurd cc

all_after : (asked : List Bool) (least : ℕ) (most : Option ℕ) (t : Tree) (k l p q : ℕ) (vs ws : List Way) → Kin
    (Repeat least most t) k l
    → p ≡ q → AreAlike asked vs ws
    → Pairs (SameLeft asked (Repeat least most t)) (flat_map (after_way least k p) vs) (flat_map (after_way least l q) ws)
all_after asked least most t k l p q [] [] kin e h = tt
all_after asked least most t k l p q [] (w ∷ ws) kin e h = absurd h
all_after asked least most t k l p q (v ∷ vs) [] kin e h = absurd h
all_after asked least most t k l p q (v ∷ vs) (w ∷ ws) kin e h =
    pairs_append (SameLeft asked (Repeat least most t)) (after_way least k p v) (after_way least l q w) (flat_map
    (after_way least k p) vs)
    (flat_map (after_way least l q) ws) (one_after asked least most t k l p q v w kin e h.0)
    (all_after asked least most t k l p q vs ws kin e h.1)

same_ended : (asked : List Bool) (r : Tree) (k l : ℕ) (v w : Way) → Kin r k l → alike asked v w ≡ true
    → Pairs (Same asked r) (ended_or_begun r k v) (ended_or_begun r l w)
same_ended asked (Repeat least most t) k l v w kin f =
    let unset = alike_made asked (v.0, cleared t v.1) (w.0, cleared t w.1) (alike_ends asked v w f)
    (same_cleared asked t v.1 w.1 (alike_groups asked v w f)) in (
      (kin, unset),
      pairs_within asked (Repeat least most t) (turn_if (leb least k) (turn.Ended v)) (turn_if (leb least l) (turn.Ended w))
          (pairs_if asked (Repeat least most t) (leb least k) (leb least l) v w (kin_enough least most t k l kin) f),
    )
same_ended asked Empty k l v w kin f = tt
same_ended asked (Then a b) k l v w kin f = tt
same_ended asked (Set n ranges) k l v w kin f = tt
same_ended asked TextStart k l v w kin f = tt
same_ended asked TextEnd k l v w kin f = tt
same_ended asked (BackReference i) k l v w kin f = tt
same_ended asked (Group i c) k l v w kin f = tt

same_begun : (asked : List Bool) (r : Tree) (s : List ℕ) (m u : Mark) → RefersWithin asked r → Kin r m.done u.done
    → alike asked m.way u.way ≡ true → Pairs (SameLeft asked r) (after_begun r s m) (after_begun r s u)
same_begun asked (Repeat least most t) s m u within kin f =
    let may : below m.done most ≡ below u.done most = kin_below least most t m.done u.done kin in
    let even = even_at asked (next_turn (below m.done most) (ways t s))
    (even_next asked (below m.done most) (ways t s) (even_ways asked t within s)) m.way u.way f in
    let same = subst (λ b. AreAlike asked (next_turn (below m.done most) (ways t s) m.way.0 m.way.1)
    (next_turn b (ways t s) u.way.0 u.way.1)) may even in
    all_after asked least most t m.done u.done m.way.0 u.way.0 (next_turn (below m.done most) (ways t s) m.way.0 m.way.1)
    (next_turn (below u.done most) (ways t s) u.way.0 u.way.1) kin (alike_ends asked m.way u.way f) same
same_begun asked Empty s m u within kin f = tt
same_begun asked (Then a b) s m u within kin f = tt
same_begun asked (Set n ranges) s m u within kin f = tt
same_begun asked TextStart s m u within kin f = tt
same_begun asked TextEnd s m u within kin f = tt
same_begun asked (BackReference i) s m u within kin f = tt
same_begun asked (Group i c) s m u within kin f = tt

first_within : (asked : List Bool) (xs : List Node) → RefersWithin asked (sequence_of xs) → RefersWithin asked (first_part xs)
first_within asked [] h = tt
first_within asked (x ∷ xs) h = h.0

part_within : (asked : List Bool) (items : List Node) (i : ℕ) → RefersWithin asked (sequence_of items) → RefersWithin asked
    (first_part (drop i items))
part_within asked items i h = first_within asked (drop i items) (rest_within asked items i h)

same_next : (asked : List Bool) (items : List Node) (at : ℕ) (s : List ℕ) → RefersWithin asked (sequence_of items) → (x y : Stage)
    → Same asked (first_part (drop at items)) x y
    → Pairs (Same asked (first_part (drop at items))) (next_stages items at s x) (next_stages items at s y)
same_next asked items at s within (Before i v) (Before j w) e =
    subst (λ k. Pairs (Same asked r) (next_stages items at s (Before i v)) (next_stages items at s (Before k w))) e.0 (by_cases
    (eqb i at))
  where
    r : Tree
    r = first_part (drop at items)

    here : Tree
    here = first_part (drop i items)

    even : AreAlike asked (by_end (ways here s v.0 v.1)) (by_end (ways here s w.0 w.1))
    even = even_at asked (next_turn true (ways here s))
        (even_next asked true (ways here s) (even_ways asked here (part_within asked items i within) s)) v w e.1

    first_kin : (t : Tree) → Kin t 0 0
    first_kin (Repeat least most t) = inl refl
    first_kin Empty = refl
    first_kin (Then a b) = refl
    first_kin (Set n ranges) = refl
    first_kin TextStart = refl
    first_kin TextEnd = refl
    first_kin (BackReference k) = refl
    first_kin (Group k c) = refl

    by_cases : (b : Bool) → Pairs (Same asked r)
        (elim b [ true ↦ Within (turn.Next 0 v) ∷ [] | false ↦ map (Before (i + 1)) (by_end (ways here s v.0 v.1)) ])
        (elim b [ true ↦ Within (turn.Next 0 w) ∷ [] | false ↦ map (Before (i + 1)) (by_end (ways here s w.0 w.1)) ])
    by_cases true = ((first_kin r, e.1), tt)
    by_cases false = pairs_before asked r (i + 1) (by_end (ways here s v.0 v.1)) (by_end (ways here s w.0 w.1)) even
same_next asked items at s within (Within (turn.Ended v)) (Within (turn.Ended w)) e = ((refl, e), tt)
same_next asked items at s within (Within (turn.Next k v)) (Within (turn.Next l w)) e = same_ended asked (first_part
    (drop at items)) k l v w e.0 e.1
same_next asked items at s within (Begun m) (Begun u) e =
    pairs_within asked (first_part (drop at items)) (after_begun (first_part (drop at items)) s m) (after_begun (first_part
    (drop at items)) s u)
    (same_begun asked (first_part (drop at items)) s m u (part_within asked items at within) e.0 e.1)
same_next asked items at s within (Within (turn.Ended v)) (Within (turn.Next l w)) e = absurd e
same_next asked items at s within (Within (turn.Next k v)) (Within (turn.Ended w)) e = absurd e
same_next asked items at s within (Before i v) (Within y) e = absurd e
same_next asked items at s within (Before i v) (Begun u) e = absurd e
same_next asked items at s within (Within x) (Before j w) e = absurd e
same_next asked items at s within (Within x) (Begun u) e = absurd e
same_next asked items at s within (Begun m) (Before j w) e = absurd e
same_next asked items at s within (Begun m) (Within y) e = absurd e

same_item : (asked : List Bool) (items : List Node) (at : ℕ) (r : Tree) (x y : Stage) → Same asked r x y → HasItem items at x
    → HasItem items at y
same_item asked items at r (Before i v) (Before j w) e h = subst (λ k. k < length items) e.0 h
same_item asked items at r (Before i v) (Within y) e h = absurd e
same_item asked items at r (Before i v) (Begun u) e h = absurd e
same_item asked items at r (Within x) (Before j w) e h = absurd e
same_item asked items at r (Within (turn.Next k v)) (Within (turn.Next l w)) e h = h
same_item asked items at r (Within (turn.Ended v)) (Within (turn.Next l w)) e h = absurd e
same_item asked items at r (Within x) (Within (turn.Ended w)) e h = tt
same_item asked items at r (Within x) (Begun u) e h = tt
same_item asked items at r (Begun m) (Before j w) e h = absurd e
same_item asked items at r (Begun m) (Within y) e h = absurd e
same_item asked items at r (Begun m) (Begun u) e h = tt

pub each_paired : {X : Type 0} (R : X → X → Type 0) (P : X → Type 0) → ((x y : X) → R x y → P x → P y) →
    (xs ys : List X) → Pairs R xs ys
    → Each P xs → Each P ys
each_paired R P f [] [] h i = tt
each_paired R P f [] (y ∷ ys) h i = absurd h
each_paired R P f (x ∷ xs) [] h i = absurd h
each_paired R P f (x ∷ xs) (y ∷ ys) h i = (f x y h.0 i.0, each_paired R P f xs ys h.1 i.1)

-- where nothing comes of one, nothing comes of the other
pub nothing_same : (asked : List Bool) (items : List Node) (at : ℕ) (s : List ℕ) → RefersWithin asked (sequence_of items) →
    (n : ℕ) (x y : Stage)
    → Same asked (first_part (drop at items)) x y → NothingWithin n items at s x → NothingWithin n items at s y
nothing_same asked items at s within zero x y e h = tt
nothing_same asked items at s within (suc n) x y e h = (
  same_item asked items at (first_part (drop at items)) x y e h.0,
  each_paired (Same asked (first_part (drop at items))) (NothingWithin n items at s) (nothing_same asked items at s within n)
      (next_stages items at s x) (next_stages items at s y) (same_next asked items at s within x y e) h.1,
)
