-- A part without groups leaves the groups as they are; and what a search for start and end says of a match.
use Rattle.std.proofs.Common.{◌≡◌, ℕ, zero, suc, ◌+◌, ◌-◌, ◌≤◌, List, [], ◌∷◌, ◌++◌, flat_map, length, Option, Some, None, Bool, true, false, cond, leb, ltb, eqb, refl, ap, sym, ◌∙◌, subst, arith}
use Rattle.std.proofs.lemmas.Bool.Decides.{nat_tests}
use Rattle.std.specs.Prelude.{◌&&◌, option_map, slice_index_or}
use Rattle.bre_parse.specs.Tree.{Tree, Empty, Then, Set, TextStart, TextEnd, BackReference, Group, Repeat}
use Rattle.bre_parse.specs.Groups.{Groups, cleared, no_groups, number_of_groups}
use Rattle.bre_parse.specs.Ways.{Way, Body, ways, turns, fresh_turn, next_turn, after_turn, stopped_or_on, from_way, below, only_if, by_end, insert_way, enough, referred_ways, bytes_of}
use Rattle.bre_parse.specs.Match.{first, longest_from, or_later, match_among, match_from}
use Rattle.bre_parse.specs.WellFormed.{repeats_in_order}
use Rattle.bre_parse.specs.Groups.{refers}
use Rattle.bre_parse.specs.Laws.{first_to}
use Rattle.bre_match.specs.Parts.{Reaches, part_of}
use Rattle.bre_match.specs.Spans.{start_and_end}
use Rattle.bre_match.specs.Tables.{LeadsThere}
use Rattle.bre_parse.proofs.SameEnds.{order_keeps_first}
use Rattle.bre_match.proofs.FirstWay.{first_there, some_first}
use Rattle.bre_match.proofs.TreeReach.{ways_reach, reach_ways}

abbrev Keep : Groups → List Way → Type 0
Keep g [] = Unit {0}
Keep g (w ∷ ws) = (w.1 ≡ g) × Keep g ws

keep_cond : (g : Groups) (b : Bool) (xs ys : List Way) → Keep g xs → Keep g ys → Keep g (cond b xs ys)
keep_cond g true xs ys h i = h
keep_cond g false xs ys h i = i

keep_insert : (g : Groups) (w : Way) (vs : List Way) → w.1 ≡ g → Keep g vs → Keep g (insert_way w vs)
keep_insert g w [] e h = (e, tt)
keep_insert g w (v ∷ vs) e h = keep_cond g (ltb w.0 v.0) (v ∷ insert_way w vs) (w ∷ v ∷ vs) (h.0, keep_insert g w vs e h.1) (e, h)

keep_by_end : (g : Groups) (ws : List Way) → Keep g ws → Keep g (by_end ws)
keep_by_end g [] h = tt
keep_by_end g (w ∷ ws) h = keep_insert g w (by_end ws) h.0 (keep_by_end g ws h.1)

keep_append : (g : Groups) (xs ys : List Way) → Keep g xs → Keep g ys → Keep g (xs ++ ys)
keep_append g [] ys h i = i
keep_append g (x ∷ xs) ys h i = (h.0, keep_append g xs ys h.1 i)

keep_flat_map : (g : Groups) (f : Way → List Way) (ws : List Way) → Keep g ws → ((w : Way) → w.1 ≡ g → Keep g (f w)) → Keep g (flat_map f ws)
keep_flat_map g f [] h all = tt
keep_flat_map g f (w ∷ ws) h all = keep_append g (f w) (flat_map f ws) (all w h.0) (keep_flat_map g f ws h.1 all)

keep_if : (g : Groups) (b : Bool) (w : Way) → w.1 ≡ g → Keep g (only_if b w)
keep_if g true w e = (e, tt)
keep_if g false w e = tt

keep_next : (g : Groups) (b : Bool) (body : Body) (p : ℕ) (h : Groups) → Keep g (body p h) → Keep g (next_turn b body p h)
keep_next g true body p h k = keep_by_end g (body p h) k
keep_next g false body p h k = tt

keep_stopped : (g : Groups) (b : Bool) (done : ℕ) (again : Body) (w : Way) → w.1 ≡ g → Keep g (again w.0 w.1) → Keep g (stopped_or_on b done again w)
keep_stopped g true done again w e h = keep_if g (eqb done 0) w e
keep_stopped g false done again w e h = h

keep_turns : (g : Groups) (fuel : ℕ) (body : Body) (least : ℕ) (most : Option ℕ) (done p : ℕ) (h : Groups) → h ≡ g → ((q : ℕ) (i : Groups) → i ≡ g → Keep g (body q i)) → Keep g (turns fuel body least most done p h)
keep_turns g zero body least most done p h e all = keep_if g (leb least done) (p, h) e
keep_turns g (suc f) body least most done p h e all =
    keep_by_end g _ (keep_append g _ (only_if (leb least done) (p, h))
    (keep_flat_map g (after_turn least done p (turns f body least most (done + 1))) (next_turn (below done most) body p h) (keep_next g (below done most) body p h (all p h e))
    (λ w k. keep_stopped g (eqb w.0 p && leb least done) done (turns f body least most (done + 1)) w k (keep_turns g f body least most (done + 1) w.0 w.1 k all)))
    (keep_if g (leb least done) (p, h) e))

none_cleared : (t : Tree) (g : Groups) → number_of_groups t ≡ 0 → cleared t g ≡ g
none_cleared Empty g e = refl
none_cleared (Then a b) g e =
    ap (cleared b) (none_cleared a g (omega arith)) ∙ none_cleared b g (omega arith)
none_cleared (Set n r) g e = refl
none_cleared TextStart g e = refl
none_cleared TextEnd g e = refl
none_cleared (BackReference n) g e = refl
none_cleared (Group n c) g e = absurd (omega arith)
none_cleared (Repeat l m c) g e = none_cleared c g e

keep_referred : (g : Groups) (o : Option (ℕ × ℕ)) (s : List ℕ) (p : ℕ) (h : Groups) → h ≡ g → Keep g (referred_ways s o p h)
keep_referred g None s p h e = tt
keep_referred g (Some span) s p h e = keep_if g _ (p + length (bytes_of s span), h) e

keep_groups : (t : Tree) → number_of_groups t ≡ 0 → (g : Groups) (s : List ℕ) (p : ℕ) (h : Groups) → h ≡ g → Keep g (ways t s p h)
keep_groups Empty n g s p h e = (e, tt)
keep_groups (Then a b) n g s p h e =
    keep_flat_map g (from_way (ways b s)) (by_end (ways a s p h)) (keep_by_end g (ways a s p h) (keep_groups a (omega arith) g s p h e))
    (λ w k. keep_groups b (omega arith) g s w.0 w.1 k)
keep_groups (Set neg r) n g s p h e = keep_if g _ (p + 1, h) e
keep_groups TextStart n g s p h e = keep_if g _ (p, h) e
keep_groups TextEnd n g s p h e = keep_if g _ (p, h) e
keep_groups (BackReference i) n g s p h e = keep_referred g (slice_index_or h i None) s p h e
keep_groups (Group i c) n g s p h e = absurd (omega arith)
keep_groups (Repeat l m c) n g s p h e =
    keep_turns g (enough l s p) (fresh_turn c (ways c s)) l m 0 p h e (λ q i k. keep_groups c n g s q (cleared c i) (none_cleared c i n ∙ k))

first_keeps : (g : Groups) (ws : List Way) (w : Way) → Keep g ws → first ws ≡ Some w → w.1 ≡ g
first_keeps g [] w h e = absurd (cc)
first_keeps g (v ∷ ws) w h e = let same : v ≡ w = cc in ap (λ (x : Way). x.1) (sym same) ∙ h.0

-- the match is the longest way of its start
found_at : (t : Tree) (s : List ℕ) (n start : ℕ) (found : ℕ × Way) → match_among n t s start ≡ Some found → (longest_from t s found.0 ≡ Some found.1)
found_at t s zero start found e = absurd (cc)
found_at t s (suc n) start found e = by_cases (longest_from t s start) refl e (found_at t s n (start + 1) found)
  where
    by_cases : (o : Option Way) → longest_from t s start ≡ o → or_later o start (match_among n t s (start + 1)) ≡ Some found → (match_among n t s (start + 1) ≡ Some found → longest_from t s found.0 ≡ Some found.1) → longest_from t s found.0 ≡ Some found.1
    by_cases None i j later = later j
    by_cases (Some w) i j later =
        let same : (start, w) ≡ found = cc in
        subst (λ (x : ℕ × Way). longest_from t s x.0 ≡ Some x.1) same i

keep_first_to : (g : Groups) (q : ℕ) (ws : List Way) (v : Way) → Keep g ws → first_to q ws ≡ Some v → v.1 ≡ g
keep_first_to g q [] v h e = absurd (cc)
keep_first_to g q (w ∷ ws) v h e = by_cases (eqb w.0 q) e (λ f. keep_first_to g q ws v h.1 f)
  where
    by_cases : (b : Bool) → cond b (Some w) (first_to q ws) ≡ Some v → (first_to q ws ≡ Some v → v.1 ≡ g) → v.1 ≡ g
    by_cases true f later = let same : w ≡ v = cc in ap (λ (x : Way). x.1) (sym same) ∙ h.0
    by_cases false f later = later f

-- a part without groups goes to each of its ends with the groups as they are
pub groupless_way : (t : Tree) (s : List ℕ) (p q : ℕ) (g : Groups) → number_of_groups t ≡ 0 → refers t ≡ false → repeats_in_order t ≡ true → p ≤ length s → Reaches (part_of t) s p q → first_to q (ways t s p g) ≡ Some (q, g)
groupless_way t s p q g n free order le r =
    let v = some_first q (ways t s p g) (reach_ways t free order s p q g le r) in
    let there = first_there q (ways t s p g) v.0 v.1 in
    let kept = keep_first_to g q (ways t s p g) v.0 (keep_groups t n g s p g refl) v.1 in
    v.1 ∙ ap (λ x. Some (x, v.0.1)) there.0 ∙ ap (λ x. Some (q, x)) kept

some_found : (o : Option (ℕ × Way)) (f : ℕ × ℕ) → Some f ≡ option_map start_and_end o → (x : ℕ × Way) × (o ≡ Some x) × (f ≡ start_and_end x)
some_found None f e = absurd (cc)
some_found (Some x) f e = (x, refl, cc)

first_is_first_to : (ws : List Way) (w : Way) → first ws ≡ Some w → first_to w.0 ws ≡ Some w
first_is_first_to [] w e = absurd (cc)
first_is_first_to (v ∷ ws) w e =
    let same : v ≡ w = cc in
    let t : eqb v.0 w.0 ≡ true = let f = ap (λ (x : Way). x.0) same in grind (arith, nat_tests, f) in
    rw t (ap (λ (x : Way). Some x) same)

-- what is known of the match where its start and end are found
record Spanned (t : Tree) (s : List ℕ) (from b e : ℕ) : Type 0 where
  way : Way
  found : match_from t s from ≡ Some (b, way)
  first : first_to e (ways t s b no_groups) ≡ Some way

spanned : (t : Tree) (s : List ℕ) (from b e : ℕ) (o : Option (ℕ × ℕ)) → o ≡ Some (b, e) → o ≡ option_map start_and_end (match_from t s from) → Spanned t s from b e
spanned t s from b e o is h =
    let f = some_found (match_from t s from) (b, e) (sym is ∙ h) in
    let x = f.0 in
    let at = found_at t s (suc (length s - from)) from x f.1 in
    let same_b : x.0 ≡ b = sym (ap (λ (y : ℕ × ℕ). y.0) f.2) in
    let same_e : x.1.0 ≡ e = sym (ap (λ (y : ℕ × ℕ). y.1) f.2) in
    let there = first_is_first_to (by_end (ways t s x.0 no_groups)) x.1 at in
    record {
      way = x.1;
      found = f.1 ∙ ap (λ y. Some (y, x.1)) same_b;
      first =
          subst (λ y. first_to e (ways t s y no_groups) ≡ Some x.1) same_b
          (subst (λ y. first_to y (ways t s x.0 no_groups) ≡ Some x.1) same_e (sym (order_keeps_first x.1.0 (ways t s x.0 no_groups)) ∙ there));
    }

pub span_reached : (t : Tree) (s : List ℕ) (from b e : ℕ) (o : Option (ℕ × ℕ)) → refers t ≡ false → repeats_in_order t ≡ true → o ≡ Some (b, e) → o ≡ option_map start_and_end (match_from t s from) → Reaches (part_of t) s b e
span_reached t s from b e o free order is h =
    let f = spanned t s from b e o is h in
    ways_reach t free order s b e no_groups (first_there e (ways t s b no_groups) f.way f.first).1

pub span_leads : (t : Tree) (s : List ℕ) (from b e : ℕ) (o : Option (ℕ × ℕ)) → refers t ≡ false → repeats_in_order t ≡ true → o ≡ Some (b, e) → o ≡ option_map start_and_end (match_from t s from) → e ≤ length s → LeadsThere t s b e
span_leads t s from b e o free order is h within = record {
  free = free;
  in_order = order;
  within = within;
  there = span_reached t s from b e o free order is h;
}

-- with the groups of the first way to its end it is the match
pub match_of_groups : (t : Tree) (s : List ℕ) (from b e : ℕ) (g : Groups) (o : Option (ℕ × ℕ)) → o ≡ Some (b, e) → o ≡ option_map start_and_end (match_from t s from) → first_to e (ways t s b no_groups) ≡ Some (e, g) → Some (b, (e, g)) ≡ match_from t s from
match_of_groups t s from b e g o is h to =
    let f = spanned t s from b e o is h in
    let same : Some (e, g) ≡ Some f.way = sym to ∙ f.first in
    ap (λ (w : Option Way). option_map (λ v. (b, v)) w) same ∙ sym f.found

pub none_found : (o : Option (ℕ × Way)) → None ≡ option_map start_and_end o → o ≡ None
none_found None e = refl
none_found (Some x) e = absurd (cc)
