-- The first way to an end takes the greatest end of the first item, or turn, from which the rest reaches that end.
use Rattle.std.proofs.Common.{◌≡◌, ℕ, zero, suc, ◌+◌, ◌-◌, ◌<◌, ◌≤◌, ◌⊎◌, inl, inr, List, [], ◌∷◌, ◌++◌, map, flat_map, length, Option, Some, None, Bool, true, false, cond, leb, eqb, refl, ap, sym, ◌∙◌, subst, arith}
use Rattle.std.proofs.lemmas.Bool.Decides.{nat_tests}
use Rattle.bre_parse.specs.Tree.{Tree, Then}
use Rattle.bre_parse.specs.Groups.{Groups, no_groups}
use Rattle.bre_parse.specs.Ways.{Way, Body, ways, turns, next_turn, after_turn, from_way, with_group, below, only_if, by_end}
use Rattle.bre_parse.specs.Match.{first, longest_from, or_later, match_among, match_from}
use Rattle.bre_parse.specs.Laws.{ends, first_to, EndBetween}
use Rattle.bre_match.specs.Laws.{Has, FirstThroughItem, FirstThroughTurn, StoppingComesLast}
use Rattle.bre_match.proofs.Merging.{Falls, falls_by_end}
use Rattle.bre_parse.proofs.SameEnds.{ends_ignore_groups, order_keeps_first}
use Rattle.bre_match.proofs.WaysReach.{has_sorted, has_unsorted, has_through}

-- First ways

pub first_there : (q : ℕ) (ws : List Way) (v : Way) → first_to q ws ≡ Some v → (v.0 ≡ q) × Has q ws
first_there q [] v e = absurd (cc)
first_there q (w ∷ ws) v e = by_cases (eqb w.0 q) refl e (λ i. first_there q ws v i)
  where
    by_cases : (b : Bool) → eqb w.0 q ≡ b → cond b (Some w) (first_to q ws) ≡ Some v → (first_to q ws ≡ Some v → (v.0 ≡ q) × Has q ws) → (v.0 ≡ q) × Has q (w ∷ ws)
    by_cases true t i inner =
        let same : w.0 ≡ q = grind (arith, nat_tests) in
        let is : w ≡ v = cc in
        (sym (ap (λ (x : Way). x.0) is) ∙ same, inl same)
    by_cases false t i inner = let r = inner i in (r.0, inr r.1)

pub some_first : (q : ℕ) (ws : List Way) → Has q ws → (v : Way) × (first_to q ws ≡ Some v)
some_first q [] h = absurd h
some_first q (w ∷ ws) h = by_cases (eqb w.0 q) refl (elim h [ inl e ↦ inl e | inr i ↦ inr (some_first q ws i) ])
  where
    by_cases : (b : Bool) → eqb w.0 q ≡ b → (w.0 ≡ q) ⊎ ((v : Way) × (first_to q ws ≡ Some v)) → (v : Way) × (cond b (Some w) (first_to q ws) ≡ Some v)
    by_cases true t i = (w, refl)
    by_cases false t i = elim i [ inl e ↦ absurd (grind (arith, nat_tests)) | inr r ↦ r ]

first_of_front : (q : ℕ) (xs ys : List Way) → Has q xs → first_to q (xs ++ ys) ≡ first_to q xs
first_of_front q [] ys h = absurd h
first_of_front q (x ∷ xs) ys h = by_cases (eqb x.0 q) refl (elim h [ inl e ↦ inl e | inr i ↦ inr (first_of_front q xs ys i) ])
  where
    by_cases : (b : Bool) → eqb x.0 q ≡ b → (x.0 ≡ q) ⊎ (first_to q (xs ++ ys) ≡ first_to q xs) → cond b (Some x) (first_to q (xs ++ ys)) ≡ cond b (Some x) (first_to q xs)
    by_cases true t i = refl
    by_cases false t i = elim i [ inl e ↦ absurd (grind (arith, nat_tests)) | inr r ↦ r ]

first_of_back : (q : ℕ) (xs ys : List Way) → (Has q xs → ⊥) → first_to q (xs ++ ys) ≡ first_to q ys
first_of_back q [] ys no_way = refl
first_of_back q (x ∷ xs) ys no_way = by_cases (first_of_back q xs ys (λ i. no_way (inr i))) (eqb x.0 q) refl
  where
    by_cases : first_to q (xs ++ ys) ≡ first_to q ys → (b : Bool) → eqb x.0 q ≡ b → cond b (Some x) (first_to q (xs ++ ys)) ≡ first_to q ys
    by_cases inner true t = absurd (no_way (inl (grind (arith, nat_tests))))
    by_cases inner false t = inner

end_low : (m low high : ℕ) (ws : List Way) → EndBetween low high ws → Has m ws → m ≤ high
end_low m low high [] b h = absurd h
end_low m low high (w ∷ ws) b h =
    elim h [ inl e ↦ (let a = b.1 in omega arith) | inr i ↦ end_low m low high ws b.2 i ]

-- among ways by falling end the first to the greatest end that leads on decides
pub first_through : (q m : ℕ) (f : Way → List Way) (ws : List Way) → Falls ws → ((w : Way) → m < w.0 → Has w.0 ws → Has q (f w) → ⊥) → (v : Way) → first_to m ws ≡ Some v → Has q (f v) → first_to q (flat_map f ws) ≡ first_to q (f v)
first_through q m f [] fall none_above v e h = absurd (cc)
first_through q m f (w ∷ ws) fall none_above v e h = by_cases (eqb w.0 m) refl e (λ i. first_through q m f ws fall.1 (λ x lt j k. none_above x lt (inr j) k) v i h)
  where
    by_cases : (b : Bool) → eqb w.0 m ≡ b → cond b (Some w) (first_to m ws) ≡ Some v → (first_to m ws ≡ Some v → first_to q (flat_map f ws) ≡ first_to q (f v)) → first_to q (f w ++ flat_map f ws) ≡ first_to q (f v)
    by_cases true t i inner =
        let is : v ≡ w = cc in
        first_of_front q (f w) (flat_map f ws) (subst (λ (x : Way). Has q (f x)) is h) ∙ ap (λ (x : Way). first_to q (f x)) (sym is)
    by_cases false t i inner =
        let le = end_low m 0 w.0 ws fall.0 (first_there m ws v i).1 in
        let lt : m < w.0 = grind (arith, nat_tests) in
        first_of_back q (f w) (flat_map f ws) (λ k. none_above w lt (inl refl) k) ∙ inner i

-- The law for a sequence
pub first_in_sequence : (a b : Tree) (s : List ℕ) (p m q : ℕ) (g : Groups) (v : Way) → first_to m (ways a s p g) ≡ Some v → Has q (ways b s v.0 v.1) → ((w : Way) → m < w.0 → Has w.0 (ways a s p g) → Has q (ways b s w.0 w.1) → ⊥) → first_to q (ways (Then a b) s p g) ≡ first_to q (ways b s v.0 v.1)
first_in_sequence a b s p m q g v e h none_above =
    first_through q m (from_way (ways b s)) (by_end (ways a s p g)) (falls_by_end (ways a s p g))
    (λ w lt i j. none_above w lt (has_unsorted w.0 (ways a s p g) i) j) v (order_keeps_first m (ways a s p g) ∙ e) h

same_has : (q : ℕ) (xs ys : List Way) → ends xs ≡ ends ys → Has q xs → Has q ys
same_has q [] ys e h = absurd h
same_has q (x ∷ xs) [] e h = absurd cc
same_has q (x ∷ xs) (y ∷ ys) e h =
    let a : x.0 ≡ y.0 = cc in
    let b : ends xs ≡ ends ys = cc in
    elim h [ inl i ↦ inl (sym a ∙ i) | inr i ↦ inr (same_has q xs ys b i) ]

pub first_through_item : FirstThroughItem
first_through_item item rest free text place middle end groups any way is on last =
    let there = (first_there middle (ways item text place groups) way is).0 in
    first_in_sequence item rest text place middle end groups way is
    (subst (λ x. Has end (ways rest text x way.1)) (sym there) (same_has end (ways rest text middle any) (ways rest text middle way.1) (ends_ignore_groups rest free text middle any way.1) on))
    (λ w lt i j. last w.0 lt i (same_has end (ways rest text w.0 w.1) (ways rest text w.0 any) (ends_ignore_groups rest free text w.0 w.1 any) j))
    ∙ ap (λ x. first_to end (ways rest text x way.1)) there

-- The law for a group
pub first_in_group : (n : ℕ) (p q : ℕ) (ws : List Way) (v : Way) → first_to q ws ≡ Some v → first_to q (map (with_group n p) ws) ≡ Some (with_group n p v)
first_in_group n p q [] v e = absurd (cc)
first_in_group n p q (w ∷ ws) v e = by_cases (eqb w.0 q) e (λ i. first_in_group n p q ws v i)
  where
    by_cases : (b : Bool) → cond b (Some w) (first_to q ws) ≡ Some v → (first_to q ws ≡ Some v → first_to q (map (with_group n p) ws) ≡ Some (with_group n p v)) → cond b (Some (with_group n p w)) (first_to q (map (with_group n p) ws)) ≡ Some (with_group n p v)
    by_cases true i inner = let is : w ≡ v = cc in ap (λ (x : Way). Some (with_group n p x)) is
    by_cases false i inner = inner i

-- The laws for a repeat: one more turn to the greatest end that goes on; stopping comes last
pub first_with_turn : (body : Body) (least : ℕ) (most : Option ℕ) (fuel done p m q : ℕ) (g : Groups) (v : Way) → below done most ≡ true → first_to m (body p g) ≡ Some v → Has q (after_turn least done p (turns fuel body least most (done + 1)) v) → ((w : Way) → m < w.0 → Has w.0 (body p g) → Has q (after_turn least done p (turns fuel body least most (done + 1)) w) → ⊥) → first_to q (turns (suc fuel) body least most done p g) ≡ first_to q (after_turn least done p (turns fuel body least most (done + 1)) v)
first_with_turn body least most fuel done p m q g v on e h none_above =
    let f = after_turn least done p (turns fuel body least most (done + 1)) in
    let begun : next_turn (below done most) body p g ≡ by_end (body p g) = ap (λ x. next_turn x body p g) on in
    let front : first_to q (flat_map f (by_end (body p g))) ≡ first_to q (f v) = first_through q m f (by_end (body p g)) (falls_by_end (body p g)) (λ w lt i j. none_above w lt (has_unsorted w.0 (body p g) i) j) v (order_keeps_first m (body p g) ∙ e) h in
    order_keeps_first q (flat_map f (next_turn (below done most) body p g) ++ only_if (leb least done) (p, g))
    ∙ ap (λ l. first_to q (flat_map f l ++ only_if (leb least done) (p, g))) begun
    ∙ first_of_front q (flat_map f (by_end (body p g))) (only_if (leb least done) (p, g)) (let u = some_first q (f v) h in (first_there q (flat_map f (by_end (body p g))) u.0 (front ∙ u.1)).1)
    ∙ front

pub first_without_turn : (body : Body) (least : ℕ) (most : Option ℕ) (fuel done p : ℕ) (g : Groups) → least ≤ done → ((w : Way) → Has w.0 (next_turn (below done most) body p g) → Has p (after_turn least done p (turns fuel body least most (done + 1)) w) → ⊥) → first_to p (turns (suc fuel) body least most done p g) ≡ Some (p, g)
first_without_turn body least most fuel done p g le none_on =
    let f = after_turn least done p (turns fuel body least most (done + 1)) in
    let l = next_turn (below done most) body p g in
    order_keeps_first p (flat_map f l ++ only_if (leb least done) (p, g))
    ∙ first_of_back p (flat_map f l) (only_if (leb least done) (p, g)) (λ i. let r = has_through p f l i in none_on r.0 r.1 r.2)
    ∙ stops (leb least done) (grind (arith, nat_tests))
  where
    stops : (b : Bool) → b ≡ true → first_to p (only_if b (p, g)) ≡ Some (p, g)
    stops true e = let t : eqb p p ≡ true = grind (arith, nat_tests) in rw t refl
    stops false e = absurd (cc)

pub first_through_turn : FirstThroughTurn
first_through_turn turn least most more done place middle end groups way may is on last =
    first_with_turn turn least most more done place middle end groups way may is on last

pub stopping_comes_last : StoppingComesLast
stopping_comes_last turn least most more done place groups le none_on =
    first_without_turn turn least most more done place groups le none_on

-- The law for a match: of the ways from a start the first of those that end last is the first to the greatest end
first_of_falling : (e : ℕ) (ws : List Way) → Falls ws → Has e ws → ((m : ℕ) → Has m ws → m ≤ e) → first ws ≡ first_to e ws
first_of_falling e [] fall h all = refl
first_of_falling e (w ∷ ws) fall h all =
    let high : w.0 ≤ e = all w.0 (inl refl) in
    let low : e ≤ w.0 = elim h [ inl same ↦ omega arith | inr i ↦ end_low e 0 w.0 ws fall.0 i ] in
    let t : eqb w.0 e ≡ true = grind (arith, nat_tests) in
    rw t refl

pub longest_first : (t : Tree) (s : List ℕ) (b e : ℕ) → Has e (ways t s b no_groups) → ((m : ℕ) → Has m (ways t s b no_groups) → m ≤ e) → longest_from t s b ≡ first_to e (ways t s b no_groups)
longest_first t s b e h all =
    let ws = ways t s b no_groups in
    first_of_falling e (by_end ws) (falls_by_end ws) (has_sorted e ws h) (λ m i. all m (has_unsorted m ws i)) ∙ order_keeps_first e ws

no_ways : (ws : List Way) → ((m : ℕ) → Has m ws → ⊥) → ws ≡ []
no_ways [] none_there = refl
no_ways (w ∷ ws) none_there = absurd (none_there w.0 (inl refl))

pub none_from : (t : Tree) (s : List ℕ) (p : ℕ) → ((m : ℕ) → Has m (ways t s p no_groups) → ⊥) → longest_from t s p ≡ None
none_from t s p h = ap (λ ws. first (by_end ws)) (no_ways (ways t s p no_groups) h)

found_among : (t : Tree) (s : List ℕ) (n start b e : ℕ) (w : Way) → start ≤ b → b < start + n → ((p m : ℕ) → start ≤ p → p < b → Has m (ways t s p no_groups) → ⊥) → Has e (ways t s b no_groups) → ((m : ℕ) → Has m (ways t s b no_groups) → m ≤ e) → first_to e (ways t s b no_groups) ≡ Some w → match_among n t s start ≡ Some (b, w)
found_among t s zero start b e w low high before h all is = absurd (omega arith)
found_among t s (suc n) start b e w low high before h all is =
    elim (here_or_later start b low) [
      | inl same ↦
          ap (λ o. or_later o start (match_among n t s (start + 1))) (subst (λ x. longest_from t s x ≡ Some w) (sym same) (longest_first t s b e h all ∙ is))
          ∙ ap (λ x. Some (x, w)) same
      | inr later ↦
          ap (λ o. or_later o start (match_among n t s (start + 1))) (none_from t s start (λ m i. before start m (omega arith) later i))
          ∙ found_among t s n (start + 1) b e w (omega arith) (omega arith) (λ p m l u i. before p m (omega arith) u i) h all is
    ]
  where
    here_or_later : (a c : ℕ) → a ≤ c → (a ≡ c) ⊎ (a < c)
    here_or_later a c l = grind arith

none_among : (t : Tree) (s : List ℕ) (n start : ℕ) → ((p m : ℕ) → start ≤ p → p < start + n → Has m (ways t s p no_groups) → ⊥) → match_among n t s start ≡ None
none_among t s zero start none_there = refl
none_among t s (suc n) start none_there =
    ap (λ o. or_later o start (match_among n t s (start + 1))) (none_from t s start (λ m i. none_there start m (omega arith) (omega arith) i))
    ∙ none_among t s n (start + 1) (λ p m l u i. none_there p m (omega arith) (omega arith) i)

pub match_found : (t : Tree) (s : List ℕ) (from b e : ℕ) (w : Way) → from ≤ b → b ≤ length s → ((p m : ℕ) → from ≤ p → p < b → Has m (ways t s p no_groups) → ⊥) → Has e (ways t s b no_groups) → ((m : ℕ) → Has m (ways t s b no_groups) → m ≤ e) → first_to e (ways t s b no_groups) ≡ Some w → match_from t s from ≡ Some (b, w)
match_found t s from b e w low high before h all is =
    found_among t s (suc (length s - from)) from b e w low (omega arith) before h all is

pub match_absent : (t : Tree) (s : List ℕ) (from : ℕ) → from ≤ length s → ((p m : ℕ) → from ≤ p → p ≤ length s → Has m (ways t s p no_groups) → ⊥) → match_from t s from ≡ None
match_absent t s from le none_there =
    none_among t s (suc (length s - from)) from (λ p m l u i. none_there p m l (omega arith) i)
