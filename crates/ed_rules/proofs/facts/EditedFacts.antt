-- What is said after an edit is true.
use Rattle.std.proofs.Common.{◌≡◌, ◌<◌, ◌≤◌, ◌⊎◌, inl, inr, ℕ, zero, suc, ◌+◌, ◌-◌, ℤ, pos, ◌+ℤ◌, ◌-ℤ◌, ◌<ℤ◌, Bool, true, false, cond, not, ◌&&◌, ◌||◌, eqb, nat_eq, List, [], ◌∷◌, ◌++◌, map, flat_map, length, All, Option, Some, None, int_eq, refl, sym, ap, subst, ◌∙◌, arith}
use Rattle.std.specs.List.{list_any, filter}
use Rattle.std.proofs.lemmas.Int.{ints}
use Rattle.std.proofs.lemmas.Bool.{eqb-true, cases_lt, cases_order, and_parts, or_cases}
use Rattle.std.proofs.lemmas.Bool.Decides.{Decides-int_eq}
use Rattle.std.proofs.lemmas.List.Elements.{All-head, All-tail, All-cons, All-nil, All-map, All-weaker, All-append}
use Rattle.zones.specs.Zone.{Bounds, Numbers, Holds}
use Rattle.ed_base.specs.Buffer.{Line}
use Rattle.ed_base.specs.Parts.{exchanged}
use Rattle.ed_syntax.specs.meaning.Values.{matches_line}
use Rattle.ed_rules.specs.facts.Facts.{LineFact, Stretch, Facts, Point, FactsHold, LineFactHolds, StretchHolds, IsClear, value_of, at, point, end, le, below, may_hold_lines, is_clear, tells}
use Rattle.ed_rules.specs.facts.EditedFacts.{Fresh, Edit, is_no, none_match, is_free, all_but_last, is_free_before_last, is_single, puts_in, stays, is_outside, stretch_stays, clear_before, clear_after, stretches, clear_edited, told_fact, of_last, of_last_known, last_edited, lines_edited, edited, Moves, IsLeft}
use Rattle.ed_rules.specs.facts.EditHolds.{AreFresh, AreFreshIf, Stays, IsEdit}
use Rattle.ed_rules.proofs.facts.FactsTold.{any-gives, any-any, point-named, le-true, is_clear-true, tells-true, differ-true}
use Rattle.ed_rules.proofs.facts.FoundLines.{filter-both, value-at}
use Rattle.ed_rules.proofs.facts.EditedLines.{Goes, Sizes, test_of, lines-go, sizes-of, NonePasses, clear-free, clear-outside, clear-joined, clear-before, clear-after, told-moved}

-- NEW LINES

no-is : (o : Option Bool) → is_no o ≡ true → o ≡ Some false
no-is None e = absurd cc
no-is (Some true) e = absurd cc
no-is (Some false) e = refl

none_match-passes : (pattern : List ℕ) (fresh : List Fresh) (new : List Line) → none_match pattern fresh ≡ true → AreFresh fresh new → NonePasses (length new) (test_of pattern new)
none_match-passes pattern [] [] e h i l = absurd (omega arith)
none_match-passes pattern [] (line ∷ new) e h i l = absurd h
none_match-passes pattern (f ∷ fresh) [] e h i l = absurd h
none_match-passes pattern (f ∷ fresh) (line ∷ new) e h zero l =
    let b = and_parts (is_no (f pattern)) (none_match pattern fresh) e in h.0 pattern false (no-is (f pattern) b.0)
none_match-passes pattern (f ∷ fresh) (line ∷ new) e h (suc i) l =
    let b = and_parts (is_no (f pattern)) (none_match pattern fresh) e in none_match-passes pattern fresh new b.1 h.1 i (omega arith)

is_free-passes : (pattern : List ℕ) (fresh : Option (List Fresh)) (new : List Line) → is_free pattern fresh ≡ true → AreFreshIf fresh new → NonePasses (length new) (test_of pattern new)
is_free-passes pattern None new e h = absurd cc
is_free-passes pattern (Some fresh) new e h = none_match-passes pattern fresh new e h

all_but_last-passes : (pattern : List ℕ) (fresh : List Fresh) (new : List Line) → all_but_last pattern fresh ≡ true → AreFresh fresh new → (i : ℕ) → i + 1 < length new → test_of pattern new i ≡ false
all_but_last-passes pattern [] [] e h i l = absurd (omega arith)
all_but_last-passes pattern [] (line ∷ new) e h i l = absurd h
all_but_last-passes pattern (f ∷ []) [] e h i l = absurd h
all_but_last-passes pattern (f ∷ []) (line ∷ []) e h i l = absurd (omega arith)
all_but_last-passes pattern (f ∷ []) (line ∷ more ∷ new) e h i l = absurd h.1
all_but_last-passes pattern (f ∷ g ∷ fresh) [] e h i l = absurd h
all_but_last-passes pattern (f ∷ g ∷ fresh) (line ∷ new) e h zero l =
    let b = and_parts (is_no (f pattern)) (all_but_last pattern (g ∷ fresh)) e in h.0 pattern false (no-is (f pattern) b.0)
all_but_last-passes pattern (f ∷ g ∷ fresh) (line ∷ new) e h (suc i) l =
    let b = and_parts (is_no (f pattern)) (all_but_last pattern (g ∷ fresh)) e in all_but_last-passes pattern (g ∷ fresh) new b.1 h.1 i (omega arith)

before_last-passes : (pattern : List ℕ) (fresh : Option (List Fresh)) (new : List Line) → is_free_before_last pattern fresh ≡ true → AreFreshIf fresh new → (i : ℕ) → i + 1 < length new → test_of pattern new i ≡ false
before_last-passes pattern None new e h = absurd cc
before_last-passes pattern (Some fresh) new e h = all_but_last-passes pattern fresh new e h

pub all-flat : {A B : Type 0} (Q : A → Type 0) (h : B → List A) (xs : List B) → ((x : B) → All Q (h x)) → All Q (flat_map h xs)
all-flat Q h [] k = All-nil Q
all-flat Q h (x ∷ xs) k = All-append Q (h x) (flat_map h xs) (k x) (all-flat Q h xs k)

all-flat_of : {A B : Type 0} (Q : A → Type 0) (P : B → Type 0) (h : B → List A) (xs : List B) → All P xs → ((x : B) → P x → All Q (h x)) → All Q (flat_map h xs)
all-flat_of Q P h [] all k = All-nil Q
all-flat_of Q P h (x ∷ xs) all k = All-append Q (h x) (flat_map h xs) (k x (All-head P x xs all)) (all-flat_of Q P h xs (All-tail P x xs all) k)

-- what is known of the last line
pub told-fact-each : (Q : LineFact → Type 0) (x : ℕ) (pattern : List ℕ) (o : Option Bool) → ((answer : Bool) → o ≡ Some answer → Q (record { name = x; pattern = pattern; matches = answer })) → All Q (told_fact x pattern o)
told-fact-each Q x pattern None k = All-nil Q
told-fact-each Q x pattern (Some answer) k = All-cons Q _ [] (k answer refl) (All-nil Q)

of_last-each : (Q : LineFact → Type 0) (x : ℕ) (patterns : List (List ℕ)) (fresh : List Fresh) (new : List Line) → AreFresh fresh new →
    ((pattern : List ℕ) (answer : Bool) (i : ℕ) → i + 1 ≡ length new → test_of pattern new i ≡ answer → Q (record { name = x; pattern = pattern; matches = answer })) → All Q (of_last x patterns fresh)
of_last-each Q x patterns [] new h k = All-nil Q
of_last-each Q x patterns (f ∷ []) [] h k = absurd h
of_last-each Q x patterns (f ∷ []) (line ∷ []) h k = all-flat Q (λ p. told_fact x p (f p)) patterns (λ p. told-fact-each Q x p (f p) (λ answer e. k p answer 0 (omega arith) (h.0 p answer e)))
of_last-each Q x patterns (f ∷ []) (line ∷ more ∷ new) h k = absurd h.1
of_last-each Q x patterns (f ∷ g ∷ fresh) [] h k = absurd h
of_last-each Q x patterns (f ∷ g ∷ fresh) (line ∷ new) h k = of_last-each Q x patterns (g ∷ fresh) new h.1 (λ p answer i e t. k p answer (suc i) (omega arith) t)

of_last_known-each : (Q : LineFact → Type 0) (x : ℕ) (patterns : List (List ℕ)) (fresh : Option (List Fresh)) (new : List Line) → AreFreshIf fresh new →
    ((pattern : List ℕ) (answer : Bool) (i : ℕ) → i + 1 ≡ length new → test_of pattern new i ≡ answer → Q (record { name = x; pattern = pattern; matches = answer })) → All Q (of_last_known x patterns fresh)
of_last_known-each Q x patterns None new h k = All-nil Q
of_last_known-each Q x patterns (Some fresh) new h k = of_last-each Q x patterns fresh new h k

pub stretches-each : (P R : ℕ → Type 0) (afters befores : List ℕ) (patterns : List (List ℕ)) → All P afters → All R befores → All (λ (s : Stretch). P s.after × R s.before) (stretches afters befores patterns)
stretches-each P R afters befores patterns pa rb =
    all-flat (λ (s : Stretch). P s.after × R s.before) (λ p. flat_map (λ x. map (λ y. record { after = x; before = y; pattern = p }) befores) afters) patterns
    (λ p. all-flat_of (λ (s : Stretch). P s.after × R s.before) P (λ x. map (λ y. record { after = x; before = y; pattern = p }) befores) afters pa
    (λ x px. All-map (λ (s : Stretch). P s.after × R s.before) (λ y. record { after = x; before = y; pattern = p }) befores (All-weaker R (λ y. P x × R y) (λ y ry. (px, ry)) befores rb)))

-- THE EDIT

module _ (zone : Bounds) (facts : Facts) (e : Edit) (kept : List ℕ) (number after : Numbers) (old new : List Line) (a b current : ℕ) (s : IsEdit zone facts e kept number after old new a b current) where
  changed : List Line
  changed = exchanged (a - 1) b new old

  -- a place of a name that stays
  abbrev PointStays : ℕ → Type 0
  PointStays x = (x < 33) × Moves a b (length new) (value_of number (point x)) (value_of after (point x))

  sizes : Sizes a b (length new) (length old) (length changed)
  unfolding changed
  sizes = sizes-of old new a b s.from s.order s.inside

  goes : (pattern : List ℕ) → Goes a b (length new) (length old) (matches_line pattern old) (matches_line pattern changed) (test_of pattern new)
  unfolding changed
  goes pattern = lines-go pattern old new a b s.from s.order s.inside

  last-after : after 2 ≡ pos (length changed)
  unfolding changed
  last-after = s.last_after

  left-after : IsLeft a (length new) (length changed) current
  unfolding changed
  left-after = s.left

  stays-point : (x : ℕ) → Stays a b (length new) number after x → PointStays x
  stays-point x h =
      let hx = h.0 in
      let p : value_of number (point x) ≡ number x = value-at number x h.0 in
      let q : value_of after (point x) ≡ after x = value-at after x h.0 in
      (omega arith, elim h.1 [ inl k ↦ let l = k.0 in let m = k.1 in inl (omega (arith, ints), q ∙ m ∙ sym p) | inr k ↦ let l = k.0 in let m = k.1 in inr (omega (arith, ints), omega (arith, ints)) ])

  zero-point : PointStays 0
  zero-point = let z = s.zero_is in let w = s.zero_after in let from = s.from in (omega arith, inl (omega (arith, ints), omega (arith, ints)))

  end-point : PointStays end
  end-point =
      let z = s.last_is in
      let w = last-after in
      let inside = s.inside in
      let left = sizes.left in
      (omega arith, inr (omega (arith, ints), omega (arith, ints)))

  kept-points : All PointStays kept
  kept-points = All-weaker (Stays a b (length new) number after) PointStays stays-point kept s.stay

  begins : All PointStays (0 ∷ kept)
  begins = All-cons PointStays 0 kept zero-point kept-points

  ends : All PointStays (end ∷ kept)
  ends = All-cons PointStays end kept end-point kept-points

  below-from : (x : Point) → x.name < 32 → below zone x e.from ≡ true → value_of number x <ℤ pos a
  below-from x hx k = let l = le-true zone number x e.from (pos 0 -ℤ pos 1) k hx s.from_named s.holds in let f = s.from_is in omega (arith, ints)

  above-to : (x : Point) → x.name < 32 → below zone e.to x ≡ true → pos b <ℤ value_of number x
  above-to x hx k = let l = le-true zone number e.to x (pos 0 -ℤ pos 1) k s.to_named hx s.holds in let f = s.to_is in omega (arith, ints)

  -- a single line
  single-true : is_single zone e ≡ true → (number e.from.name ≡ pos a) × (a ≡ b)
  single-true k =
      let u = and_parts (int_eq e.from.plus (pos 0)) _ k in
      let v = and_parts (le zone e.from e.to (pos 0)) (le zone e.to e.from (pos 0)) u.1 in
      let plus : e.from.plus ≡ pos 0 = (Decides-int_eq e.from.plus (pos 0)).0 u.0 in
      let low = le-true zone number e.from e.to (pos 0) v.0 s.from_named s.to_named s.holds in
      let high = le-true zone number e.to e.from (pos 0) v.1 s.to_named s.from_named s.holds in
      let f = s.from_is in
      let t = s.to_is in
      (omega (arith, ints), omega (arith, ints))

  outside-true : (patterns : List (List ℕ)) (x y : ℕ) → PointStays x → PointStays y → is_outside zone facts e patterns (point x) (point y) ≡ true →
      (pos b <ℤ value_of number (point x)) ⊎ (value_of number (point y) <ℤ pos a)
  outside-true patterns x y px py k =
      elim (or_cases (below zone e.to (point x)) _ k) [
        | inl q ↦ inl (above-to (point x) (point-named x px.0) q)
        | inr q ↦ elim (or_cases (below zone (point y) e.from) _ q) [
          | inl r ↦ inr (below-from (point y) (point-named y py.0) r)
          | inr r ↦
              let u = and_parts (is_single zone e) _ r in
              let one = single-true u.0 in
              let here = one.0 in
              let ab = one.1 in
              let inside = s.inside in
              elim px.1 [
                | inr above ↦ inl above.0
                | inl under ↦ elim py.1 [
                  | inl l ↦ inr l.0
                  | inr l ↦
                      let xs = under.0 in
                      let ys = l.0 in
                      absurd (any-any (λ q. tells zone facts e.from.name q true && is_clear zone facts (point x) (point y) q) ⊥ patterns
                      (λ q t.
                      let w = and_parts (tells zone facts e.from.name q true) _ t in
                      let yes : matches_line q old a ≡ true = tells-true zone facts number old e.from.name a q true w.0 s.from_named s.holds s.facts_hold here s.from (omega arith) in
                      let clear = is_clear-true zone facts number old (point x) (point y) q w.1 (point-named x px.0) (point-named y py.0) s.holds s.facts_hold in
                      let not : matches_line q old a ≡ false = clear a s.from (omega arith) (omega (arith, ints)) (omega (arith, ints)) in
                      let bad : true ≡ false = sym yes ∙ not in
                      absurd cc) u.1)
                ]
              ]
        ]
      ]

  clear-old : (pattern : List ℕ) (x y : Point) → x.name < 32 → y.name < 32 → is_clear zone facts x y pattern ≡ true → IsClear (length old) (matches_line pattern old) (value_of number x) (value_of number y)
  clear-old pattern x y hx hy k = is_clear-true zone facts number old x y pattern k hx hy s.holds s.facts_hold

  to-from : (pattern : List ℕ) (x : Point) → x.name < 32 → is_clear zone facts x e.from pattern ≡ true → IsClear (length old) (matches_line pattern old) (value_of number x) (pos a)
  to-from pattern x hx k = subst (λ (z : ℤ). IsClear (length old) (matches_line pattern old) (value_of number x) z) s.from_is (clear-old pattern x e.from hx s.from_named k)

  from-to : (pattern : List ℕ) (y : Point) → y.name < 32 → is_clear zone facts e.to y pattern ≡ true → IsClear (length old) (matches_line pattern old) (pos b) (value_of number y)
  from-to pattern y hy k = subst (λ (z : ℤ). IsClear (length old) (matches_line pattern old) z (value_of number y)) s.to_is (clear-old pattern e.to y s.to_named hy k)

  stretch-stays : (patterns : List (List ℕ)) (t : Stretch) → PointStays t.after × PointStays t.before → stretch_stays zone facts e patterns t ≡ true → StretchHolds after changed t
  stretch-stays patterns t p k =
      let x : Point = point t.after in
      let y : Point = point t.before in
      let hx : x.name < 32 = point-named t.after (p.0).0 in
      let hy : y.name < 32 = point-named t.before (p.1).0 in
      let kept = and_parts (may_hold_lines zone x y) _ k in
      let g = goes t.pattern in
      record {
        after_named = (p.0).0;
        before_named = (p.1).0;
        holds = elim (or_cases (is_clear zone facts x y t.pattern && (is_free t.pattern e.fresh || is_outside zone facts e patterns x y)) _ kept.1) [
          | inl q ↦
              let u = and_parts (is_clear zone facts x y t.pattern) _ q in
              let c = clear-old t.pattern x y hx hy u.0 in
              elim (or_cases (is_free t.pattern e.fresh) (is_outside zone facts e patterns x y) u.1) [
                | inl r ↦ clear-free a b _ _ _ _ _ _ _ _ _ _ g sizes (p.0).1 (p.1).1 (is_free-passes t.pattern e.fresh new r s.fresh) c
                | inr r ↦ clear-outside a b _ _ _ _ _ _ _ _ _ _ g sizes (p.0).1 (p.1).1 (outside-true patterns t.after t.before p.0 p.1 r) c
              ]
          | inr q ↦
              let u = and_parts (is_free t.pattern e.fresh) _ q in
              let v = and_parts (below zone x e.from) _ u.1 in
              let w = and_parts (below zone e.to y) _ v.1 in
              let z = and_parts (is_clear zone facts x e.from t.pattern) (is_clear zone facts e.to y t.pattern) w.1 in
              clear-joined a b _ _ _ _ _ _ _ _ _ _ g sizes (p.0).1 (p.1).1 (is_free-passes t.pattern e.fresh new u.0 s.fresh) (below-from x hx v.0) (above-to y hy w.0)
              (to-from t.pattern x hx z.0) (from-to t.pattern y hy z.1)
        ];
      }

  current-value : value_of after (point 1) ≡ pos current
  current-value = value-at after 1 (omega arith) ∙ s.current_after

  clear-before-here : (t : Stretch) → PointStays t.after × (t.before ≡ 1) → clear_before zone facts e t ≡ true → StretchHolds after changed t
  clear-before-here t p k =
      let x : Point = point t.after in
      let hx : x.name < 32 = point-named t.after (p.0).0 in
      let here = p.1 in
      let u = and_parts (is_free_before_last t.pattern e.fresh) _ k in
      let v = and_parts (below zone x e.from) _ u.1 in
      let c = clear-before a b _ _ _ current _ _ _ _ _ (goes t.pattern) sizes (p.0).1 left-after (before_last-passes t.pattern e.fresh new u.0 s.fresh) (below-from x hx v.0) (to-from t.pattern x hx v.1) in
      record {
        after_named = (p.0).0;
        before_named = omega arith;
        holds = subst (λ (z : ℤ). IsClear (length changed) (matches_line t.pattern changed) (value_of after x) z) (sym current-value ∙ ap (λ (y : ℕ). value_of after (point y)) (sym here)) c;
      }

  clear-after-here : (t : Stretch) → (t.after ≡ 1) × PointStays t.before → clear_after zone facts e t ≡ true → StretchHolds after changed t
  clear-after-here t p k =
      let y : Point = point t.before in
      let hy : y.name < 32 = point-named t.before (p.1).0 in
      let here = p.0 in
      let u = and_parts (below zone e.to y) _ k in
      let c = clear-after a b _ _ _ current _ _ _ _ _ (goes t.pattern) sizes (p.1).1 left-after (above-to y hy u.0) (from-to t.pattern y hy u.1) in
      record {
        after_named = omega arith;
        before_named = (p.1).0;
        holds = subst (λ (z : ℤ). IsClear (length changed) (matches_line t.pattern changed) z (value_of after y)) (sym current-value ∙ ap (λ (x : ℕ). value_of after (point x)) (sym here)) c;
      }

  only-here : All (λ (x : ℕ). x ≡ 1) (1 ∷ [])
  only-here = All-cons (λ (x : ℕ). x ≡ 1) 1 [] refl (All-nil (λ (x : ℕ). x ≡ 1))

  clear-holds : (patterns : List (List ℕ)) → All (StretchHolds after changed) (clear_edited zone facts e kept patterns)
  clear-holds patterns =
      let one : List Stretch = stretches (0 ∷ kept) (end ∷ kept) patterns in
      let two : List Stretch = stretches (0 ∷ kept) (1 ∷ []) patterns in
      let three : List Stretch = stretches (1 ∷ []) (end ∷ kept) patterns in
      All-append (StretchHolds after changed) (filter (stretch_stays zone facts e patterns) one) (filter (clear_before zone facts e) two ++ filter (clear_after zone facts e) three)
      (filter-both (stretch_stays zone facts e patterns) (λ (t : Stretch). PointStays t.after × PointStays t.before) (StretchHolds after changed) one (stretches-each PointStays PointStays (0 ∷ kept) (end ∷ kept) patterns begins ends) (stretch-stays patterns))
      (All-append (StretchHolds after changed) (filter (clear_before zone facts e) two) (filter (clear_after zone facts e) three)
      (filter-both (clear_before zone facts e) (λ (t : Stretch). PointStays t.after × (t.before ≡ 1)) (StretchHolds after changed) two (stretches-each PointStays (λ (x : ℕ). x ≡ 1) (0 ∷ kept) (1 ∷ []) patterns begins only-here) clear-before-here)
      (filter-both (clear_after zone facts e) (λ (t : Stretch). (t.after ≡ 1) × PointStays t.before) (StretchHolds after changed) three (stretches-each (λ (x : ℕ). x ≡ 1) PointStays (1 ∷ []) (end ∷ kept) patterns only-here ends) clear-after-here))

  moved-fact : (f : LineFact) → LineFactHolds number old f → Moves a b (length new) (number f.name) (after f.name) → LineFactHolds after changed f
  moved-fact f h m = record {
    named = h.named;
    holds = told-moved a b _ _ _ _ _ _ _ _ f.matches (goes f.pattern) sizes m h.holds;
  }

  kept-fact : (f : LineFact) → LineFactHolds number old f → list_any (nat_eq f.name) kept ≡ true → LineFactHolds after changed f
  kept-fact f h k =
      any-gives (nat_eq f.name) (Stays a b (length new) number after) (LineFactHolds after changed f) kept s.stay
      (λ v q t. let same : f.name ≡ v = eqb-true f.name v t in moved-fact f h (subst (λ (x : ℕ). Moves a b (length new) (number x) (after x)) (sym same) q.1)) k

  -- the last new line is that of this name
  last-new : (x line : ℕ) → x < 32 → after x ≡ pos line → line + 1 ≡ a + length new → (pattern : List ℕ) (answer : Bool) (i : ℕ) → i + 1 ≡ length new → test_of pattern new i ≡ answer →
      LineFactHolds after changed (record { name = x; pattern = pattern; matches = answer })
  last-new x line hx is there pattern answer i size t =
      let order = s.order in
      let from = s.from in
      let inside = s.inside in
      let left = sizes.left in
      record {
        named = hx;
        holds = record {
          line = line;
          is = is;
          from = omega arith;
          inside = omega arith;
          told = (goes pattern).fresh line (omega arith) (omega arith) ∙ subst (λ (k : ℕ). test_of pattern new k ≡ answer) (let same : i ≡ line - a = omega arith in same) t;
        };
      }

  current-facts : (patterns : List (List ℕ)) → All (LineFactHolds after changed) (of_last_known 1 patterns e.fresh)
  current-facts patterns =
      of_last_known-each (LineFactHolds after changed) 1 patterns e.fresh new s.fresh
      (λ pattern answer i size t.
      let there : current + 1 ≡ a + length new = (elim left-after [ inl k ↦ k | inr k ↦ let z = k.0 in absurd (omega arith) ]) in
      last-new 1 current (omega arith) s.current_after there pattern answer i size t)

  last-facts : (patterns : List (List ℕ)) → All (LineFactHolds after changed) (last_edited zone facts e patterns)
  last-facts patterns =
      let left = sizes.left in
      let last_is = s.last_is in
      let is_now = last-after in
      (elim (below zone e.to (at 2)) as
      (λ c. below zone e.to (at 2) ≡ c → All (LineFactHolds after changed) (cond c (filter (λ (f : LineFact). eqb f.name 2) facts.lines) (cond (le zone (at 2) e.to (pos 0)) (of_last_known 2 patterns e.fresh) []))) [
        | true ↦ λ k.
            let above : pos b <ℤ value_of number (at 2) = above-to (at 2) (omega arith) k in
            let m : Moves a b (length new) (number 2) (after 2) = inr (omega (arith, ints), omega (arith, ints)) in
            filter-both (λ (f : LineFact). eqb f.name 2) (LineFactHolds number old) (LineFactHolds after changed) facts.lines s.facts_hold.of_lines
            (λ f h q. moved-fact f h (subst (λ (x : ℕ). Moves a b (length new) (number x) (after x)) (sym (eqb-true f.name 2 q)) m))
        | false ↦ λ k.
            (elim (le zone (at 2) e.to (pos 0)) as
            (λ c. le zone (at 2) e.to (pos 0) ≡ c → All (LineFactHolds after changed) (cond c (of_last_known 2 patterns e.fresh) [])) [
              | true ↦ λ q.
                  let l = le-true zone number (at 2) e.to (pos 0) q (omega arith) s.to_named s.holds in
                  let t = s.to_is in
                  let inside = s.inside in
                  let order = s.order in
                  of_last_known-each (LineFactHolds after changed) 2 patterns e.fresh new s.fresh
                  (λ pattern answer i size u. last-new 2 (length changed) (omega arith) is_now (omega (arith, ints)) pattern answer i size u)
              | false ↦ λ q. All-nil (LineFactHolds after changed)
            ]) refl
      ]) refl

  lines-hold : (patterns : List (List ℕ)) → All (LineFactHolds after changed) (lines_edited zone facts e kept patterns)
  lines-hold patterns =
      All-append (LineFactHolds after changed) (filter (λ (f : LineFact). list_any (nat_eq f.name) kept) facts.lines) (last_edited zone facts e patterns ++ of_last_known 1 patterns e.fresh)
      (filter-both (λ (f : LineFact). list_any (nat_eq f.name) kept) (LineFactHolds number old) (LineFactHolds after changed) facts.lines s.facts_hold.of_lines kept-fact)
      (All-append (LineFactHolds after changed) (last_edited zone facts e patterns) (of_last_known 1 patterns e.fresh) (last-facts patterns) (current-facts patterns))

  pub edit-holds : (patterns : List (List ℕ)) → FactsHold (edited zone facts e kept patterns) after (exchanged (a - 1) b new old)
  unfolding changed
  edit-holds patterns = record { of_lines = lines-hold patterns; of_clear = clear-holds patterns }

-- a letter that stays isn't one of those that give way
pub stays-true : (zone : Bounds) (facts : Facts) (e : Edit) (number : Numbers) (old : List Line) (a b x k : ℕ) → stays zone facts e x ≡ true → Holds zone number → FactsHold facts number old → e.from.name < 32 → e.to.name < 32 →
    value_of number e.from ≡ pos a → value_of number e.to ≡ pos b → 1 ≤ a → b ≤ length old → x < 32 → number x ≡ pos k → 1 ≤ k → k ≤ length old → (k < a) ⊎ (b < k)
stays-true zone facts e number old a b x k h holds f from_named to_named from_is to_is from inside hx is low high =
    elim (or_cases (puts_in e) _ h) [
      | inl p ↦
          let u = and_parts (eqb e.from.name e.to.name) (int_eq e.from.plus (e.to.plus +ℤ pos 1)) p in
          let same : number e.from.name ≡ number e.to.name = ap number (eqb-true e.from.name e.to.name u.0) in
          let plus : e.from.plus ≡ e.to.plus +ℤ pos 1 = (Decides-int_eq e.from.plus (e.to.plus +ℤ pos 1)).0 u.1 in
          elim (cases_lt k a) [ inl l ↦ inl l | inr l ↦ inr (omega (arith, ints)) ]
      | inr h' ↦ elim (or_cases (below zone (at x) e.from) _ h') [
        | inl q ↦ let l = le-true zone number (at x) e.from (pos 0 -ℤ pos 1) q hx from_named holds in inl (omega (arith, ints))
        | inr q ↦ elim (or_cases (below zone e.to (at x)) _ q) [
          | inl r ↦ let l = le-true zone number e.to (at x) (pos 0 -ℤ pos 1) r to_named hx holds in inr (omega (arith, ints))
          | inr r ↦
              let u = and_parts (is_single zone e) _ r in
              let v = and_parts (int_eq e.from.plus (pos 0)) _ u.0 in
              let w = and_parts (le zone e.from e.to (pos 0)) (le zone e.to e.from (pos 0)) v.1 in
              let plus : e.from.plus ≡ pos 0 = (Decides-int_eq e.from.plus (pos 0)).0 v.0 in
              let one = le-true zone number e.from e.to (pos 0) w.0 from_named to_named holds in
              let two = le-true zone number e.to e.from (pos 0) w.1 to_named from_named holds in
              let here : number e.from.name ≡ pos a = omega (arith, ints) in
              let two_lines = differ-true zone facts number old x e.from.name k a u.1 hx from_named holds f is low high here from (omega (arith, ints)) in
              elim (cases_order k a) [
                | inl same ↦ absurd (two_lines same)
                | inr apart ↦ elim apart [ inl l ↦ inl l | inr l ↦ inr (omega (arith, ints)) ]
              ]
        ]
      ]
    ]
