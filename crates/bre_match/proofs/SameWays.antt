-- What follows from ways that are alike is alike, so that the first of them are enough.
use Rattle.std.proofs.Common.{◌≡◌, inl, inr, ℕ, zero, suc, ◌+◌, ◌≤◌, List, [], ◌∷◌, ◌++◌, map, flat_map, length, Option, Some, None, Bool, true, false, cond, leb, ltb, eqb, refl, ap, sym, ◌∙◌, subst, append_assoc, arith}
use Rattle.std.specs.Prelude.{◌&&◌, slice_index_or, slice_set}
use Rattle.std.proofs.lemmas.Bool.Decides.{nat_tests}
use Rattle.bre_parse.specs.Tree.{Tree, Empty, Then, Set, TextStart, TextEnd, BackReference, Group, Repeat}
use Rattle.bre_parse.specs.Groups.{Groups, cleared}
use Rattle.bre_parse.specs.Ways.{Way, Body, ways, turns, fresh_turn, next_turn, after_turn, stopped_or_on, from_way, with_group, below, only_if, by_end, insert_way, enough, bytes_of, referred_ways}
use Rattle.bre_parse.specs.Match.{first}
use Rattle.bre_match.specs.Order.{longer, longest}
use Rattle.bre_match.specs.Alike.{RefersWithin, same_span, same_asked, alike, unlike, firsts, HasAlike, AreAlike}
use Rattle.bre_match.proofs.Sorting.{longest_first}
use Rattle.bre_match.proofs.Likeness.{both_left, both_right, both, span_itself, span_same, alike_ends, alike_groups, alike_made, alike_itself, alike_through, Covers, firsts_right, firsts_covered}

-- Groups that are set alike stay alike

same_set : (asked : List Bool) (g h : Groups) (i : ℕ) (o : Option (ℕ × ℕ)) → same_asked asked g h ≡ true → same_asked asked (slice_set g i o) (slice_set h i o) ≡ true
same_set asked [] [] i o e = refl
same_set asked [] (p ∷ h) i o e = absurd cc
same_set asked (q ∷ g) [] i o e = absurd cc
same_set [] (q ∷ g) (p ∷ h) zero o e = both (same_span o o) (same_asked [] g h) (span_itself o) (both_right (same_span q p) (same_asked [] g h) e)
same_set [] (q ∷ g) (p ∷ h) (suc i) o e =
    both (same_span q p) (same_asked [] (slice_set g i o) (slice_set h i o)) (both_left (same_span q p) (same_asked [] g h) e) (same_set [] g h i o (both_right (same_span q p) (same_asked [] g h) e))
same_set (false ∷ asked) (q ∷ g) (p ∷ h) zero o e = e
same_set (true ∷ asked) (q ∷ g) (p ∷ h) zero o e = both (same_span o o) (same_asked asked g h) (span_itself o) (both_right (same_span q p) (same_asked asked g h) e)
same_set (false ∷ asked) (q ∷ g) (p ∷ h) (suc i) o e = same_set asked g h i o e
same_set (true ∷ asked) (q ∷ g) (p ∷ h) (suc i) o e =
    both (same_span q p) (same_asked asked (slice_set g i o) (slice_set h i o)) (both_left (same_span q p) (same_asked asked g h) e) (same_set asked g h i o (both_right (same_span q p) (same_asked asked g h) e))

pub same_cleared : (asked : List Bool) (t : Tree) (g h : Groups) → same_asked asked g h ≡ true → same_asked asked (cleared t g) (cleared t h) ≡ true
same_cleared asked Empty g h e = e
same_cleared asked (Then a b) g h e = same_cleared asked b (cleared a g) (cleared a h) (same_cleared asked a g h e)
same_cleared asked (Set n r) g h e = e
same_cleared asked TextStart g h e = e
same_cleared asked TextEnd g h e = e
same_cleared asked (BackReference i) g h e = e
same_cleared asked (Group i c) g h e = same_set asked (cleared c g) (cleared c h) i None (same_cleared asked c g h e)
same_cleared asked (Repeat l m c) g h e = same_cleared asked c g h e

-- a group that is asked for has the same span
asked_span : (asked : List Bool) (g h : Groups) (i : ℕ) → same_asked asked g h ≡ true → slice_index_or asked i true ≡ true → slice_index_or g i None ≡ slice_index_or h i None
asked_span asked [] [] i e a = refl
asked_span asked [] (p ∷ h) i e a = absurd cc
asked_span asked (q ∷ g) [] i e a = absurd cc
asked_span [] (q ∷ g) (p ∷ h) zero e a = span_same q p (both_left (same_span q p) (same_asked [] g h) e)
asked_span [] (q ∷ g) (p ∷ h) (suc i) e a = asked_span [] g h i (both_right (same_span q p) (same_asked [] g h) e) refl
asked_span (false ∷ asked) (q ∷ g) (p ∷ h) zero e a = absurd cc
asked_span (true ∷ asked) (q ∷ g) (p ∷ h) zero e a = span_same q p (both_left (same_span q p) (same_asked asked g h) e)
asked_span (false ∷ asked) (q ∷ g) (p ∷ h) (suc i) e a = asked_span asked g h i e a
asked_span (true ∷ asked) (q ∷ g) (p ∷ h) (suc i) e a = asked_span asked g h i (both_right (same_span q p) (same_asked asked g h) e) a

-- Lists that are alike

pub alike_append : (asked : List Bool) (xs us ys vs : List Way) → AreAlike asked xs us → AreAlike asked ys vs → AreAlike asked (xs ++ ys) (us ++ vs)
alike_append asked [] [] ys vs h i = i
alike_append asked [] (u ∷ us) ys vs h i = absurd h
alike_append asked (x ∷ xs) [] ys vs h i = absurd h
alike_append asked (x ∷ xs) (u ∷ us) ys vs h i = (h.0, alike_append asked xs us ys vs h.1 i)

alike_if : (asked : List Bool) (b : Bool) (v w : Way) → alike asked v w ≡ true → AreAlike asked (only_if b v) (only_if b w)
alike_if asked true v w e = (e, tt)
alike_if asked false v w e = tt

alike_cond : (asked : List Bool) (b : Bool) (xs ys us vs : List Way) → AreAlike asked xs us → AreAlike asked ys vs → AreAlike asked (cond b xs ys) (cond b us vs)
alike_cond asked true xs ys us vs h i = h
alike_cond asked false xs ys us vs h i = i

alike_insert : (asked : List Bool) (v w : Way) (xs ys : List Way) → alike asked v w ≡ true → AreAlike asked xs ys → AreAlike asked (insert_way v xs) (insert_way w ys)
alike_insert asked v w [] [] e h = (e, tt)
alike_insert asked v w [] (y ∷ ys) e h = absurd h
alike_insert asked v w (x ∷ xs) [] e h = absurd h
alike_insert asked v w (x ∷ xs) (y ∷ ys) e h =
    let a : AreAlike asked (cond (ltb w.0 y.0) (x ∷ insert_way v xs) (v ∷ x ∷ xs)) (insert_way w (y ∷ ys)) =
    alike_cond asked (ltb w.0 y.0) (x ∷ insert_way v xs) (v ∷ x ∷ xs) (y ∷ insert_way w ys) (w ∷ y ∷ ys) (h.0, alike_insert asked v w xs ys e h.1) (e, h) in
    subst (λ b. AreAlike asked (cond b (x ∷ insert_way v xs) (v ∷ x ∷ xs)) (insert_way w (y ∷ ys)))
    (sym (ap (λ n. ltb n x.0) (alike_ends asked v w e) ∙ ap (λ n. ltb w.0 n) (alike_ends asked x y h.0))) a

alike_by_end : (asked : List Bool) (xs ys : List Way) → AreAlike asked xs ys → AreAlike asked (by_end xs) (by_end ys)
alike_by_end asked [] [] h = tt
alike_by_end asked [] (y ∷ ys) h = absurd h
alike_by_end asked (x ∷ xs) [] h = absurd h
alike_by_end asked (x ∷ xs) (y ∷ ys) h = alike_insert asked x y (by_end xs) (by_end ys) h.0 (alike_by_end asked xs ys h.1)

pub alike_flat_map : (asked : List Bool) (f h : Way → List Way) (xs ys : List Way) → ((v w : Way) → alike asked v w ≡ true → AreAlike asked (f v) (h w)) → AreAlike asked xs ys → AreAlike asked (flat_map f xs) (flat_map h ys)
alike_flat_map asked f h [] [] all i = tt
alike_flat_map asked f h [] (y ∷ ys) all i = absurd i
alike_flat_map asked f h (x ∷ xs) [] all i = absurd i
alike_flat_map asked f h (x ∷ xs) (y ∷ ys) all i = alike_append asked (f x) (h y) (flat_map f xs) (flat_map h ys) (all x y i.0) (alike_flat_map asked f h xs ys all i.1)

alike_map : (asked : List Bool) (f : Way → Way) (xs ys : List Way) → ((v w : Way) → alike asked v w ≡ true → alike asked (f v) (f w) ≡ true) → AreAlike asked xs ys → AreAlike asked (map f xs) (map f ys)
alike_map asked f [] [] all i = tt
alike_map asked f [] (y ∷ ys) all i = absurd i
alike_map asked f (x ∷ xs) [] all i = absurd i
alike_map asked f (x ∷ xs) (y ∷ ys) all i = (all x y i.0, alike_map asked f xs ys all i.1)

-- Bodies from which alike ways lead on alike

abbrev pub Even : List Bool → Body → Type 0
Even asked body = (p : ℕ) (g h : Groups) → same_asked asked g h ≡ true → AreAlike asked (body p g) (body p h)

pub even_at : (asked : List Bool) (body : Body) → Even asked body → (v w : Way) → alike asked v w ≡ true → AreAlike asked (body v.0 v.1) (body w.0 w.1)
even_at asked body even v w e =
    subst (λ n. AreAlike asked (body v.0 v.1) (body n w.1)) (alike_ends asked v w e) (even v.0 v.1 w.1 (alike_groups asked v w e))

pub even_next : (asked : List Bool) (b : Bool) (body : Body) → Even asked body → Even asked (next_turn b body)
even_next asked true body even p g h e = alike_by_end asked (body p g) (body p h) (even p g h e)
even_next asked false body even p g h e = tt

even_stopped : (asked : List Bool) (b : Bool) (k : ℕ) (again : Body) → Even asked again → (v w : Way) → alike asked v w ≡ true → AreAlike asked (stopped_or_on b k again v) (stopped_or_on b k again w)
even_stopped asked true k again even v w e = alike_if asked (eqb k 0) v w e
even_stopped asked false k again even v w e = even_at asked again even v w e

pub even_after : (asked : List Bool) (least k p : ℕ) (again : Body) → Even asked again → (v w : Way) → alike asked v w ≡ true → AreAlike asked (after_turn least k p again v) (after_turn least k p again w)
even_after asked least k p again even v w e =
    subst (λ n. AreAlike asked (stopped_or_on (eqb v.0 p && leb least k) k again v) (stopped_or_on (eqb n p && leb least k) k again w)) (alike_ends asked v w e)
    (even_stopped asked (eqb v.0 p && leb least k) k again even v w e)

pub place_alike : (asked : List Bool) (p : ℕ) (g h : Groups) → same_asked asked g h ≡ true → alike asked (p, g) (p, h) ≡ true
place_alike asked p g h e = alike_made asked (p, g) (p, h) refl e

pub even_turns : (asked : List Bool) (fuel : ℕ) (body : Body) (least : ℕ) (most : Option ℕ) (k : ℕ) → Even asked body → Even asked (turns fuel body least most k)
even_turns asked zero body least most k even p g h e = alike_if asked (leb least k) (p, g) (p, h) (place_alike asked p g h e)
even_turns asked (suc f) body least most k even p g h e =
    alike_by_end asked _ _ (alike_append asked _ _ (only_if (leb least k) (p, g)) (only_if (leb least k) (p, h))
    (alike_flat_map asked (after_turn least k p (turns f body least most (k + 1))) (after_turn least k p (turns f body least most (k + 1))) (next_turn (below k most) body p g) (next_turn (below k most) body p h)
    (even_after asked least k p (turns f body least most (k + 1)) (even_turns asked f body least most (k + 1) even))
    (even_next asked (below k most) body even p g h e))
    (alike_if asked (leb least k) (p, g) (p, h) (place_alike asked p g h e)))

pub even_fresh : (asked : List Bool) (t : Tree) (body : Body) → Even asked body → Even asked (fresh_turn t body)
even_fresh asked t body even p g h e = even p (cleared t g) (cleared t h) (same_cleared asked t g h e)

even_referred : (asked : List Bool) (s : List ℕ) (o : Option (ℕ × ℕ)) → Even asked (referred_ways s o)
even_referred asked s None p g h e = tt
even_referred asked s (Some span) p g h e =
    alike_if asked _ (p + length (bytes_of s span), g) (p + length (bytes_of s span), h) (place_alike asked (p + length (bytes_of s span)) g h e)

pub with_group_alike : (asked : List Bool) (i p : ℕ) (v w : Way) → alike asked v w ≡ true → alike asked (with_group i p v) (with_group i p w) ≡ true
with_group_alike asked i p v w e =
    alike_made asked (with_group i p v) (with_group i p w) (alike_ends asked v w e)
    (subst (λ n. same_asked asked (slice_set v.1 i (Some (p, v.0))) (slice_set w.1 i (Some (p, n))) ≡ true) (alike_ends asked v w e) (same_set asked v.1 w.1 i (Some (p, v.0)) (alike_groups asked v w e)))

pub even_ways : (asked : List Bool) (t : Tree) → RefersWithin asked t → (s : List ℕ) → Even asked (ways t s)
even_ways asked Empty r s p g h e = (place_alike asked p g h e, tt)
even_ways asked (Then a b) r s p g h e =
    alike_flat_map asked (from_way (ways b s)) (from_way (ways b s)) (by_end (ways a s p g)) (by_end (ways a s p h))
    (even_at asked (ways b s) (even_ways asked b r.1 s))
    (alike_by_end asked (ways a s p g) (ways a s p h) (even_ways asked a r.0 s p g h e))
even_ways asked (Set n rs) r s p g h e = alike_if asked _ (p + 1, g) (p + 1, h) (place_alike asked (p + 1) g h e)
even_ways asked TextStart r s p g h e = alike_if asked _ (p, g) (p, h) (place_alike asked p g h e)
even_ways asked TextEnd r s p g h e = alike_if asked _ (p, g) (p, h) (place_alike asked p g h e)
even_ways asked (BackReference i) r s p g h e =
    subst (λ o. AreAlike asked (referred_ways s (slice_index_or g i None) p g) (referred_ways s o p h)) (asked_span asked g h i e r) (even_referred asked s (slice_index_or g i None) p g h e)
even_ways asked (Group i c) r s p g h e =
    alike_map asked (with_group i p) (ways c s p g) (ways c s p h) (with_group_alike asked i p) (even_ways asked c r s p g h e)
even_ways asked (Repeat l m c) r s p g h e =
    even_turns asked (enough l s p) (fresh_turn c (ways c s)) l m 0 (even_fresh asked c (ways c s) (even_ways asked c r s)) p g h e

pub follows_from_asked : (asked : List Bool) (t : Tree) → RefersWithin asked t → (s : List ℕ) (p : ℕ) (g h : Groups) → same_asked asked g h ≡ true → AreAlike asked (ways t s p g) (ways t s p h)
follows_from_asked = even_ways

-- What is covered

has_more : (asked : List Bool) (xs ys : List Way) (w : Way) → HasAlike asked xs w → HasAlike asked (xs ++ ys) w
has_more asked [] ys w h = absurd h
has_more asked (x ∷ xs) ys w (inl e) = inl e
has_more asked (x ∷ xs) ys w (inr h) = inr (has_more asked xs ys w h)

has_after : (asked : List Bool) (xs ys : List Way) (w : Way) → HasAlike asked ys w → HasAlike asked (xs ++ ys) w
has_after asked [] ys w h = h
has_after asked (x ∷ xs) ys w h = inr (has_after asked xs ys w h)

pub has_like : (asked : List Bool) (xs : List Way) (v w : Way) → alike asked v w ≡ true → HasAlike asked xs v → HasAlike asked xs w
has_like asked [] v w e h = absurd h
has_like asked (x ∷ xs) v w e (inl f) = inl (alike_through asked x v w f e)
has_like asked (x ∷ xs) v w e (inr h) = inr (has_like asked xs v w e h)

pub covers_more : (asked : List Bool) (xs ys ws : List Way) → Covers asked xs ws → Covers asked (xs ++ ys) ws
covers_more asked xs ys [] c = tt
covers_more asked xs ys (w ∷ ws) c = (has_more asked xs ys w c.0, covers_more asked xs ys ws c.1)

pub covers_after : (asked : List Bool) (xs ys ws : List Way) → Covers asked ys ws → Covers asked (xs ++ ys) ws
covers_after asked xs ys [] c = tt
covers_after asked xs ys (w ∷ ws) c = (has_after asked xs ys w c.0, covers_after asked xs ys ws c.1)

pub covers_like : (asked : List Bool) (xs vs ws : List Way) → AreAlike asked vs ws → Covers asked xs vs → Covers asked xs ws
covers_like asked xs [] [] h c = tt
covers_like asked xs [] (w ∷ ws) h c = absurd h
covers_like asked xs (v ∷ vs) [] h c = absurd h
covers_like asked xs (v ∷ vs) (w ∷ ws) h c = (has_like asked xs v w h.0 c.0, covers_like asked xs vs ws h.1 c.1)

pub covers_itself : (asked : List Bool) (xs : List Way) → Covers asked xs xs
covers_itself asked [] = tt
covers_itself asked (x ∷ xs) = (inl (alike_itself asked x), covers_after asked (x ∷ []) xs xs (covers_itself asked xs))

-- The first ways of what follows

-- where what follows a way is there already, what follows its like adds nothing
firsts_without : (asked : List Bool) (f : Way → List Way) (x : Way) (out zs : List Way) → ((v w : Way) → alike asked v w ≡ true → AreAlike asked (f v) (f w)) → Covers asked out (f x) → firsts asked (out ++ flat_map f (unlike asked x zs)) ≡ firsts asked (out ++ flat_map f zs)
firsts_without asked f x out [] even c = refl
firsts_without asked f x out (z ∷ zs) even c = by_cases (alike asked x z) refl (firsts_without asked f x out zs even c) (firsts_without asked f x (out ++ f z) zs even (covers_more asked out (f z) (f x) c))
  where
    by_cases : (b : Bool) → alike asked x z ≡ b → firsts asked (out ++ flat_map f (unlike asked x zs)) ≡ firsts asked (out ++ flat_map f zs) → firsts asked ((out ++ f z) ++ flat_map f (unlike asked x zs)) ≡ firsts asked ((out ++ f z) ++ flat_map f zs) → firsts asked (out ++ flat_map f (elim b [ true ↦ unlike asked x zs | false ↦ z ∷ unlike asked x zs ])) ≡ firsts asked (out ++ (f z ++ flat_map f zs))
    by_cases true e dropped kept =
        dropped ∙ sym (firsts_covered asked out (f z) (flat_map f zs) (covers_like asked out (f x) (f z) (even x z e) c))
    by_cases false e dropped kept =
        ap (firsts asked) (sym (append_assoc out (f z) (flat_map f (unlike asked x zs)))) ∙ kept ∙ ap (firsts asked) (append_assoc out (f z) (flat_map f zs))

firsts_of_firsts : (asked : List Bool) (f : Way → List Way) (xs : List Way) → ((v w : Way) → alike asked v w ≡ true → AreAlike asked (f v) (f w)) → firsts asked (flat_map f (firsts asked xs)) ≡ firsts asked (flat_map f xs)
firsts_of_firsts asked f [] even = refl
firsts_of_firsts asked f (x ∷ xs) even =
    firsts_without asked f x (f x) (firsts asked xs) even (covers_itself asked (f x))
    ∙ firsts_right asked (f x) (flat_map f (firsts asked xs)) (flat_map f xs) (firsts_of_firsts asked f xs even)

pub firsts_follow : (asked : List Bool) (f : Way → List Way) (xs ys : List Way) → ((v w : Way) → alike asked v w ≡ true → AreAlike asked (f v) (f w)) → firsts asked xs ≡ firsts asked ys → firsts asked (flat_map f xs) ≡ firsts asked (flat_map f ys)
firsts_follow asked f xs ys even e =
    sym (firsts_of_firsts asked f xs even) ∙ ap (λ l. firsts asked (flat_map f l)) e ∙ firsts_of_firsts asked f ys even

-- The longest way is among the first ones

longer_stays : (best : Option Way) (x : Way) → (o : Way) × (longer best x ≡ Some o) × (x.0 ≤ o.0)
longer_stays None x = (x, refl, omega arith)
longer_stays (Some v) x = by_cases (ltb v.0 x.0) refl
  where
    by_cases : (b : Bool) → ltb v.0 x.0 ≡ b → (o : Way) × (cond b (Some x) (Some v) ≡ Some o) × (x.0 ≤ o.0)
    by_cases true e = (x, refl, omega arith)
    by_cases false e = (v, refl, grind (arith, nat_tests))

longest_without : (asked : List Bool) (x : Way) (zs : List Way) (o : Way) → x.0 ≤ o.0 → longest (Some o) (unlike asked x zs) ≡ longest (Some o) zs
longest_without asked x [] o le = refl
longest_without asked x (z ∷ zs) o le = by_cases (alike asked x z) refl (ltb o.0 z.0) refl (longest_without asked x zs o le) (λ further. longest_without asked x zs z further)
  where
    by_cases : (b : Bool) → alike asked x z ≡ b → (d : Bool) → ltb o.0 z.0 ≡ d → longest (Some o) (unlike asked x zs) ≡ longest (Some o) zs → (x.0 ≤ z.0 → longest (Some z) (unlike asked x zs) ≡ longest (Some z) zs) → longest (Some o) (elim b [ true ↦ unlike asked x zs | false ↦ z ∷ unlike asked x zs ]) ≡ longest (cond d (Some z) (Some o)) zs
    by_cases true e true f same later =
        let ends = alike_ends asked x z e in absurd (grind (arith, nat_tests, ends))
    by_cases true e false f same later = same
    by_cases false e true f same later =
        ap (λ b. longest (cond b (Some z) (Some o)) (unlike asked x zs)) f ∙ later (grind (arith, nat_tests))
    by_cases false e false f same later =
        ap (λ b. longest (cond b (Some z) (Some o)) (unlike asked x zs)) f ∙ same

longest_firsts : (asked : List Bool) (best : Option Way) (xs : List Way) → longest best (firsts asked xs) ≡ longest best xs
longest_firsts asked best [] = refl
longest_firsts asked best (x ∷ xs) =
    let o = longer_stays best x in
    ap (λ y. longest y (unlike asked x (firsts asked xs))) o.1
    ∙ longest_without asked x (firsts asked xs) o.0 o.2
    ∙ longest_firsts asked (Some o.0) xs
    ∙ ap (λ y. longest y xs) (sym o.1)

pub longest_same : (asked : List Bool) (best : Option Way) (xs ys : List Way) → firsts asked xs ≡ firsts asked ys → longest best xs ≡ longest best ys
longest_same asked best xs ys e = sym (longest_firsts asked best xs) ∙ ap (longest best) e ∙ longest_firsts asked best ys

pub firsts_decide : (asked : List Bool) (rest : Tree) → RefersWithin asked rest → (s : List ℕ) (all kept : List Way) → firsts asked kept ≡ firsts asked all → first (by_end (flat_map (from_way (ways rest s)) kept)) ≡ first (by_end (flat_map (from_way (ways rest s)) all))
firsts_decide asked rest r s all kept e =
    let f = firsts_follow asked (from_way (ways rest s)) kept all (even_at asked (ways rest s) (even_ways asked rest r s)) e in
    sym (longest_first (flat_map (from_way (ways rest s)) kept)) ∙ longest_same asked None (flat_map (from_way (ways rest s)) kept) (flat_map (from_way (ways rest s)) all) f ∙ longest_first (flat_map (from_way (ways rest s)) all)
