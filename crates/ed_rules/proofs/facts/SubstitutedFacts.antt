-- What is said after an `s` over a range is true.
use Rattle.std.proofs.Common.{◌≡◌, ◌<◌, ◌≤◌, ◌⊎◌, inl, inr, ℕ, zero, suc, ◌+◌, ◌-◌, ℤ, pos, ◌+ℤ◌, ◌-ℤ◌, ◌<ℤ◌, Bool, true, false, not, ◌&&◌, ◌||◌, eqb, nat_eq, List, [], ◌∷◌, ◌++◌, map, length, take, drop, get_or, All, Option, Some, None, refl, sym, ap, subst, ◌∙◌, arith, length-append, length-drop, nat_le, Ok, Err}
use Rattle.std.specs.List.{list_any, list_all}
use Rattle.std.proofs.lemmas.Int.{ints}
use Rattle.std.proofs.lemmas.Bool.{eqb-true, cases_lt, not_from_false, and_from, and_parts, or_cases}
use Rattle.std.proofs.lemmas.List.{length-take-le, get_or-take, get_or-drop, get_or_append_left, get_or-append_right}
use Rattle.std.proofs.lemmas.List.Elements.{All-cons, All-weaker}
use Rattle.zones.specs.Zone.{Bounds, Numbers}
use Rattle.ed_base.specs.Buffer.{Line, plain_line, has_letter}
use Rattle.ed_rules.proofs.sound.LettersInLines.{no_letter}
use Rattle.ed_base.specs.Parts.{between, replaced}
use Rattle.ed_syntax.specs.meaning.Values.{matches, matches_line}
use Rattle.ed_syntax.specs.meaning.SubstitutedLines.{onto, each, made_of}
use Rattle.ed_syntax.specs.meaning.Substitution.{Found, taken_first, taken_from, taken, picked, replaced_in, split_at_newlines, substituted}
use Rattle.ed_syntax.specs.declared.replacement.Part.{Part}
use Rattle.ed_syntax.specs.declared.replacement.Which.{Which}
use Rattle.ed_syntax.specs.declared.replacement.Which.TheVariants as which
use Rattle.bre_parse.specs.Grammar.{pattern}
use Rattle.bre_parse.specs.Match.{match_from}
use Rattle.bre_parse.specs.Tree.{Tree}
use Rattle.std.specs.Option.{is_some, option_map}
use Rattle.ed_rules.specs.facts.Facts.{LineFact, Stretch, Facts, Point, FactsHold, LineFactHolds, StretchHolds, same_text, value_of, at, point, end, le, below, may_hold_lines, is_clear, tells}
use Rattle.ed_rules.specs.facts.EditedFacts.{stretches}
use Rattle.ed_rules.specs.facts.SubstitutedFacts.{is_spared, stretch_spared, substituted_facts, Makes, MakesOfEach, IsSubstituted}
use Rattle.ed_rules.proofs.facts.FactsTold.{any-gives, point-named, le-true, is_clear-true, tells-true}
use Rattle.ed_rules.proofs.facts.FoundLines.{filter-both, value-at}
use Rattle.ed_rules.proofs.facts.EditedFacts.{stretches-each}

-- ONE LINE OF EACH

line_at : List Line → ℕ → Line
line_at ls i = get_or ls i (plain_line [])

only-one : (texts : List (List ℕ)) → length texts ≡ 1 → (t : List ℕ) × (texts ≡ t ∷ [])
only-one [] e = absurd (omega arith)
only-one (t ∷ []) e = (t, refl)
only-one (t ∷ u ∷ more) e = absurd (omega arith)

module _ (f : Makes) (possible spared : List (List ℕ)) (m : MakesOfEach f possible spared) where
  each-size : (ls : List Line) → length (each f ls).0 ≡ length ls
  each-size [] = refl
  each-size (l ∷ ls) =
      (elim (f l.bytes) as (λ o. f l.bytes ≡ o → length (onto l o (each f ls)).0 ≡ suc (length ls)) [
        | None ↦ λ e. ap suc (each-size ls)
        | Some texts ↦ λ e. let t = only-one texts (m.one l.bytes texts e) in
            ap (λ (ts : List (List ℕ)). length (map plain_line ts ++ (each f ls).0)) t.1 ∙ ap suc (each-size ls)
      ]) refl

  -- a line that none of the patterns matches is as it was
  each-same : (ls : List Line) (i : ℕ) → i < length ls → list_all (λ q. not (matches q (line_at ls i).bytes)) possible ≡ true → line_at (each f ls).0 i ≡ line_at ls i
  unfolding line_at
  each-same [] i h e = absurd (omega arith)
  each-same (l ∷ ls) zero h e = let none = m.unmatched l.bytes e in rw none refl
  each-same (l ∷ ls) (suc i) h e =
      let later = each-same ls i (omega arith) e in
      (elim (f l.bytes) as (λ o. f l.bytes ≡ o → line_at (onto l o (each f ls)).0 (suc i) ≡ line_at ls i) [
        | None ↦ λ q. later
        | Some texts ↦ λ q. let t = only-one texts (m.one l.bytes texts q) in
            ap (λ (ts : List (List ℕ)). line_at (map plain_line ts ++ (each f ls).0) (suc i)) t.1 ∙ later
      ]) refl

  -- a letter is where it was, or gone with its line
  each-letters : (x : ℕ) (ls : List Line) (i : ℕ) → has_letter x (line_at (each f ls).0 i) ≡ true → has_letter x (line_at ls i) ≡ true
  unfolding line_at
  each-letters x [] i e = e
  each-letters x (l ∷ ls) zero e =
      (elim (f l.bytes) as (λ o. f l.bytes ≡ o → has_letter x (line_at (onto l o (each f ls)).0 0) ≡ true → has_letter x l ≡ true) [
        | None ↦ λ q k. k
        | Some texts ↦ λ q k.
            let t = only-one texts (m.one l.bytes texts q) in
            let plain : has_letter x (plain_line t.0) ≡ true =
            ap (λ (ts : List (List ℕ)). has_letter x (line_at (map plain_line ts ++ (each f ls).0) 0)) (sym t.1) ∙ k in
            let none : false ≡ true = sym (no_letter 26 x) ∙ plain in cc
      ]) refl e
  each-letters x (l ∷ ls) (suc i) e =
      let later = each-letters x ls i in
      (elim (f l.bytes) as (λ o. f l.bytes ≡ o → has_letter x (line_at (onto l o (each f ls)).0 (suc i)) ≡ true → has_letter x (line_at ls i) ≡ true) [
        | None ↦ λ q k. later k
        | Some texts ↦ λ q k. let t = only-one texts (m.one l.bytes texts q) in
            later (ap (λ (ts : List (List ℕ)). has_letter x (line_at (map plain_line ts ++ (each f ls).0) (suc i))) (sym t.1) ∙ k)
      ]) refl e

  -- a line that such a pattern doesn't match becomes none that it does
  each-spared : (pattern : List ℕ) → list_any (λ p. same_text p pattern) spared ≡ true → (ls : List Line) (i : ℕ) → i < length ls → matches pattern (line_at ls i).bytes ≡ false → matches pattern (line_at (each f ls).0 i).bytes ≡ false
  unfolding line_at
  each-spared pattern s [] i h e = absurd (omega arith)
  each-spared pattern s (l ∷ ls) zero h e =
      (elim (f l.bytes) as (λ o. f l.bytes ≡ o → matches pattern (line_at (onto l o (each f ls)).0 0).bytes ≡ false) [
        | None ↦ λ q. e
        | Some texts ↦ λ q.
            let t = only-one texts (m.one l.bytes texts q) in
            let k : list_any (matches pattern) (t.0 ∷ []) ≡ false = sym (ap (list_any (matches pattern)) t.1) ∙ m.spares pattern l.bytes texts s q e in
            let one : matches pattern t.0 ≡ false = first-false (matches pattern t.0) k in
            ap (λ (ts : List (List ℕ)). matches pattern (line_at (map plain_line ts ++ (each f ls).0) 0).bytes) t.1 ∙ one
      ]) refl
    where
      first-false : (b : Bool) → b || false ≡ false → b ≡ false
      first-false true k = k
      first-false false k = refl
  each-spared pattern s (l ∷ ls) (suc i) h e =
      let later = each-spared pattern s ls i (omega arith) e in
      (elim (f l.bytes) as (λ o. f l.bytes ≡ o → matches pattern (line_at (onto l o (each f ls)).0 (suc i)).bytes ≡ false) [
        | None ↦ λ q. later
        | Some texts ↦ λ q. let t = only-one texts (m.one l.bytes texts q) in
            ap (λ (ts : List (List ℕ)). matches pattern (line_at (map plain_line ts ++ (each f ls).0) (suc i)).bytes) t.1 ∙ later
      ]) refl

all-by : {A : Type 0} (p q : A → Bool) (xs : List A) → ((x : A) → p x ≡ true → q x ≡ true) → list_all p xs ≡ true → list_all q xs ≡ true
all-by p q [] k h = refl
all-by p q (x ∷ xs) k h = let b = and_parts (p x) (list_all p xs) h in and_from (q x) (list_all q xs) (k x b.0) (all-by p q xs k b.1)

module _ (f : Makes) (possible spared : List (List ℕ)) (made : MakesOfEach f possible spared) (zone : Bounds) (facts : Facts) (kept : List ℕ) (number after : Numbers) (old : List Line) (a b : ℕ) (s : IsSubstituted zone facts kept number after old a b) where
  block : List Line
  block = between a b old

  new : List Line
  unfolding block
  new = (each f block).0

  changed : List Line
  changed = replaced a b new old

  block-size : length block ≡ b + 1 - a
  unfolding block
  block-size = let from = s.from in let order = s.order in length-drop (a - 1) (take b old) ∙ (let q = length-take-le b old s.inside in omega arith)

  new-size : length new ≡ b + 1 - a
  unfolding new
  new-size = each-size f possible spared made block ∙ block-size

  head-size : length (take (a - 1) old) ≡ a - 1
  head-size = let order = s.order in let inside = s.inside in length-take-le (a - 1) old (omega arith)

  size : length changed ≡ length old
  unfolding changed
  size =
      let from = s.from in
      let order = s.order in
      let inside = s.inside in
      let h = head-size in
      let n = new-size in
      omega (arith, length-append (take (a - 1) old) (new ++ drop b old), length-append new (drop b old), length-drop b old)

  before-line : (m : ℕ) → 1 ≤ m → m < a → line_at changed (m - 1) ≡ line_at old (m - 1)
  unfolding changed line_at
  before-line m from low = let h = head-size in get_or_append_left (take (a - 1) old) (new ++ drop b old) (plain_line []) (m - 1) (omega arith) ∙ get_or-take (a - 1) old (m - 1) (plain_line []) (omega arith)

  after-line : (m : ℕ) → b < m → line_at changed (m - 1) ≡ line_at old (m - 1)
  unfolding changed line_at
  after-line m high =
      let from = s.from in
      let order = s.order in
      let h = head-size in
      let n = new-size in
      get_or-append_right (take (a - 1) old) (new ++ drop b old) (a - 1) (m - 1) (plain_line []) head-size (omega arith)
      ∙ get_or-append_right new (drop b old) (b + 1 - a) (m - 1 - (a - 1)) (plain_line []) new-size (omega arith)
      ∙ get_or-drop b old (m - 1 - (a - 1) - (b + 1 - a)) (plain_line [])
      ∙ ap (λ (i : ℕ). get_or old i (plain_line [])) (omega arith)

  within-line : (m : ℕ) → a ≤ m → m ≤ b → line_at changed (m - 1) ≡ line_at new (m - a)
  unfolding changed line_at
  within-line m low high =
      let from = s.from in
      let n = new-size in
      get_or-append_right (take (a - 1) old) (new ++ drop b old) (a - 1) (m - 1) (plain_line []) head-size (omega arith)
      ∙ get_or_append_left new (drop b old) (plain_line []) (m - 1 - (a - 1)) (omega arith)
      ∙ ap (λ (i : ℕ). get_or new i (plain_line [])) (omega arith)

  block-line : (m : ℕ) → a ≤ m → m ≤ b → line_at block (m - a) ≡ line_at old (m - 1)
  unfolding block line_at
  block-line m low high =
      let from = s.from in
      get_or-drop (a - 1) (take b old) (m - a) (plain_line []) ∙ get_or-take b old (a - 1 + (m - a)) (plain_line []) (omega arith) ∙ ap (λ (i : ℕ). get_or old i (plain_line [])) (omega arith)

  tests-same : (pattern : List ℕ) (m : ℕ) → line_at changed (m - 1) ≡ line_at old (m - 1) → matches_line pattern changed m ≡ matches_line pattern old m
  unfolding line_at
  tests-same pattern m e = ap (λ (l : Line). matches pattern l.bytes) e

  -- a line outside the range, or one that none of the patterns matches, is as it was
  same-line : (pattern : List ℕ) (m : ℕ) → 1 ≤ m → ((m < a) ⊎ (b < m)) ⊎ (list_all (λ q. not (matches_line q old m)) possible ≡ true) → matches_line pattern changed m ≡ matches_line pattern old m
  unfolding new line_at
  same-line pattern m from why =
      elim (cases_lt m a) [
        | inl low ↦ tests-same pattern m (before-line m from low)
        | inr past ↦ elim (cases_lt b m) [
          | inl high ↦ tests-same pattern m (after-line m high)
          | inr within ↦ elim why [
            | inl out ↦ absurd (elim out [ inl l ↦ omega arith | inr l ↦ omega arith ])
            | inr none ↦
                let n = block-size in
                let there : line_at block (m - a) ≡ line_at old (m - 1) = block-line m past within in
                let none' : list_all (λ q. not (matches q (line_at block (m - a)).bytes)) possible ≡ true = subst (λ (l : Line). list_all (λ q. not (matches q l.bytes)) possible ≡ true) (sym there) none in
                tests-same pattern m (within-line m past within ∙ each-same f possible spared made block (m - a) (omega arith) none' ∙ there)
          ]
        ]
      ]

  letters-same : (x m : ℕ) → 1 ≤ m → has_letter x (line_at changed (m - 1)) ≡ true → has_letter x (line_at old (m - 1)) ≡ true
  unfolding new line_at
  letters-same x m from e =
      elim (cases_lt m a) [
        | inl low ↦ ap (has_letter x) (sym (before-line m from low)) ∙ e
        | inr past ↦ elim (cases_lt b m) [
          | inl high ↦ ap (has_letter x) (sym (after-line m high)) ∙ e
          | inr within ↦
              ap (has_letter x) (sym (block-line m past within))
              ∙ each-letters f possible spared made x block (m - a) (ap (has_letter x) (sym (within-line m past within)) ∙ e)
        ]
      ]

  spared-line : (pattern : List ℕ) → list_any (λ p. same_text p pattern) spared ≡ true → (m : ℕ) → 1 ≤ m → matches_line pattern old m ≡ false → matches_line pattern changed m ≡ false
  unfolding new line_at
  spared-line pattern k m from e =
      elim (cases_lt m a) [
        | inl low ↦ tests-same pattern m (before-line m from low) ∙ e
        | inr past ↦ elim (cases_lt b m) [
          | inl high ↦ tests-same pattern m (after-line m high) ∙ e
          | inr within ↦
              let n = block-size in
              let there : line_at block (m - a) ≡ line_at old (m - 1) = block-line m past within in
              let e' : matches pattern (line_at block (m - a)).bytes ≡ false = ap (λ (l : Line). matches pattern l.bytes) there ∙ e in
              ap (λ (l : Line). matches pattern l.bytes) (within-line m past within) ∙ each-spared f possible spared made pattern k block (m - a) (omega arith) e'
        ]
      ]

  at-three : value_of number (at 3) ≡ pos a
  at-three = let e = s.first_is in omega (arith, ints)

  at-four : value_of number (at 4) ≡ pos b
  at-four = let e = s.second_is in omega (arith, ints)

  -- the places of names whose numbers are as they were
  PointSame : ℕ → Type 0
  PointSame x = (x < 33) × (value_of after (point x) ≡ value_of number (point x))

  points-zero : PointSame 0
  unfolding PointSame
  points-zero = (omega arith, value-at after 0 (omega arith) ∙ s.zero_same ∙ sym (value-at number 0 (omega arith)))

  points-end : PointSame end
  unfolding PointSame
  points-end = (omega arith, ap (λ (z : ℤ). z +ℤ pos 1) s.last_same)

  points-kept : All PointSame kept
  unfolding PointSame
  points-kept = All-weaker (λ x. (x < 32) × (after x ≡ number x)) PointSame (λ x h. let k = h.0 in (omega arith, value-at after x h.0 ∙ h.1 ∙ sym (value-at number x h.0))) kept s.stay

  stretch-stays : (t : Stretch) → PointSame t.after × PointSame t.before → stretch_spared zone facts possible spared t ≡ true → StretchHolds after changed t
  unfolding PointSame
  stretch-stays t p k =
      let x : Point = point t.after in
      let y : Point = point t.before in
      let hx : x.name < 32 = point-named t.after (p.0).0 in
      let hy : y.name < 32 = point-named t.before (p.1).0 in
      let xs = (p.0).1 in
      let ys = (p.1).1 in
      let u = and_parts (may_hold_lines zone x y) _ k in
      let v = and_parts (is_clear zone facts x y t.pattern) _ u.1 in
      let clear = is_clear-true zone facts number old x y t.pattern v.0 hx hy s.holds s.facts_hold in
      let three = at-three in
      let four = at-four in
      record {
        after_named = (p.0).0;
        before_named = (p.1).0;
        holds = λ m from inside above under.
            let fits : m ≤ length old = subst (λ (n : ℕ). m ≤ n) size inside in
            let low : value_of number x <ℤ pos m = omega (arith, ints) in
            let high : pos m <ℤ value_of number y = omega (arith, ints) in
            let old_clear : matches_line t.pattern old m ≡ false = clear m from fits low high in
            elim (or_cases (list_any (λ p. same_text p t.pattern) spared) _ v.1) [
              | inl q ↦ spared-line t.pattern q m from old_clear
              | inr q ↦ elim (or_cases (le zone y (at 3) (pos 0)) _ q) [
                | inl r ↦ let d = le-true zone number y (at 3) (pos 0) r hy (omega arith) s.holds in same-line t.pattern m from (inl (inl (omega (arith, ints)))) ∙ old_clear
                | inr r ↦ elim (or_cases (le zone (at 4) x (pos 0)) _ r) [
                  | inl w ↦ let d = le-true zone number (at 4) x (pos 0) w (omega arith) hx s.holds in same-line t.pattern m from (inl (inr (omega (arith, ints)))) ∙ old_clear
                  | inr w ↦
                      same-line t.pattern m from
                      (inr (all-by (λ q. is_clear zone facts x y q) (λ q. not (matches_line q old m)) possible
                      (λ q e. not_from_false (matches_line q old m) (is_clear-true zone facts number old x y q e hx hy s.holds s.facts_hold m from fits low high)) w))
                      ∙ old_clear
                ]
              ]
            ];
      }

  spared-fact : (g : LineFact) → LineFactHolds number old g → after g.name ≡ number g.name → is_spared zone facts possible g.name ≡ true → LineFactHolds after changed g
  spared-fact g h same k =
      let i = h.holds.line in
      let is = h.holds.is in
      let three = at-three in
      let four = at-four in
      let why : ((i < a) ⊎ (b < i)) ⊎ (list_all (λ q. not (matches_line q old i)) possible ≡ true) = (elim (or_cases (below zone (at g.name) (at 3)) _ k) [
        | inl q ↦ let d = le-true zone number (at g.name) (at 3) (pos 0 -ℤ pos 1) q h.named (omega arith) s.holds in inl (inl (omega (arith, ints)))
        | inr q ↦ elim (or_cases (below zone (at 4) (at g.name)) _ q) [
          | inl r ↦ let d = le-true zone number (at 4) (at g.name) (pos 0 -ℤ pos 1) r (omega arith) h.named s.holds in inl (inr (omega (arith, ints)))
          | inr r ↦ inr (all-by (λ q. tells zone facts g.name q false) (λ q. not (matches_line q old i)) possible
              (λ q e. not_from_false (matches_line q old i) (tells-true zone facts number old g.name i q false e h.named s.holds s.facts_hold is h.holds.from h.holds.inside)) r)
        ]
      ]) in
      record {
        named = h.named;
        holds = record { line = i; is = same ∙ is; from = h.holds.from; inside = subst (λ (n : ℕ). i ≤ n) (sym size) h.holds.inside; told = same-line g.pattern i h.holds.from why ∙ h.holds.told };
      }

  kept-fact : (g : LineFact) → LineFactHolds number old g → (list_any (nat_eq g.name) kept || eqb g.name 2) && is_spared zone facts possible g.name ≡ true → LineFactHolds after changed g
  kept-fact g h k =
      let u = and_parts (list_any (nat_eq g.name) kept || eqb g.name 2) _ k in
      elim (or_cases (list_any (nat_eq g.name) kept) (eqb g.name 2) u.0) [
        | inl q ↦ any-gives (nat_eq g.name) (λ x. (x < 32) × (after x ≡ number x)) (LineFactHolds after changed g) kept s.stay
            (λ x e t. spared-fact g h (subst (λ (y : ℕ). after y ≡ number y) (sym (eqb-true g.name x t)) e.1) u.1) q
        | inr q ↦ spared-fact g h (subst (λ (y : ℕ). after y ≡ number y) (sym (eqb-true g.name 2 q)) s.last_same) u.1
      ]

  facts-hold : (patterns : List (List ℕ)) → FactsHold (substituted_facts zone facts possible spared kept patterns) after changed
  facts-hold patterns = record {
    of_lines = filter-both (λ (g : LineFact). (list_any (nat_eq g.name) kept || eqb g.name 2) && is_spared zone facts possible g.name) (LineFactHolds number old) (LineFactHolds after changed) facts.lines s.facts_hold.of_lines kept-fact;
    of_clear = filter-both (stretch_spared zone facts possible spared) (λ (t : Stretch). PointSame t.after × PointSame t.before) (StretchHolds after changed) (stretches (0 ∷ kept) (end ∷ kept) patterns)
        (stretches-each PointSame PointSame (0 ∷ kept) (end ∷ kept) patterns (All-cons PointSame 0 kept points-zero points-kept) (All-cons PointSame end kept points-end points-kept)) stretch-stays;
  }

  pub substituted-hold : (patterns : List (List ℕ)) → FactsHold (substituted_facts zone facts possible spared kept patterns) after (replaced a b (each f (between a b old)).0 old)
  unfolding changed new block
  substituted-hold patterns = facts-hold patterns

  pub substituted-letters : (x m : ℕ) → 1 ≤ m → has_letter x (get_or (replaced a b (each f (between a b old)).0 old) (m - 1) (plain_line [])) ≡ true →
      has_letter x (get_or old (m - 1) (plain_line [])) ≡ true
  unfolding changed new block line_at
  substituted-letters x m from e = letters-same x m from e

  pub substituted-size : length (replaced a b (each f (between a b old)).0 old) ≡ length old
  unfolding changed new block
  substituted-size = size

-- A LINE WITHOUT A MATCH

taken-none : (tree : Tree) (bytes : List ℕ) → match_from tree bytes 0 ≡ None → taken tree bytes ≡ []
taken-none tree bytes e =
    elim (nat_le 0 (length bytes)) as
    (λ b. (elim b as (λ _. List Found) [ true ↦ taken_first (λ place full. taken_from (length bytes) tree bytes place full) 0 false (match_from tree bytes 0) | false ↦ [] ]) ≡ []) [
      | true ↦ rw e refl
      | false ↦ refl
    ]

drop-none : (n : ℕ) → drop {A = Found} n [] ≡ []
drop-none zero = refl
drop-none (suc n) = refl

picked-none : (choice : Which) → picked choice [] ≡ []
picked-none which.First = refl
picked-none (which.Nth n) = ap (take 1) (drop-none n)
picked-none which.All = refl

none-is : {A : Type 0} (o : Option A) → is_some o ≡ false → o ≡ None
none-is None e = refl
none-is (Some a) e = absurd cc

substituted-none : (tree : Tree) (parts : List Part) (choice : Which) (bytes : List ℕ) → match_from tree bytes 0 ≡ None → substituted tree parts choice bytes ≡ None
substituted-none tree parts choice bytes e =
    ap (λ (found : List Found). option_map split_at_newlines (replaced_in parts bytes (picked choice found))) (taken-none tree bytes e)
    ∙ ap (λ (found : List Found). option_map split_at_newlines (replaced_in parts bytes found)) (picked-none choice)

pub made-unmatched : (text : List ℕ) (parts : List Part) (choice : Which) (bytes : List ℕ) → matches text bytes ≡ false → made_of text parts choice bytes ≡ None
made-unmatched text parts choice bytes =
    elim (pattern text) as
    (λ r. (elim r as (λ _. Bool) [ Ok tree ↦ is_some (match_from tree bytes 0) | Err f ↦ false ]) ≡ false → (elim r as (λ _. Option (List (List ℕ))) [ Ok tree ↦ substituted tree parts choice bytes | Err f ↦ None ]) ≡ None) [
      | Ok tree ↦ λ e. substituted-none tree parts choice bytes (none-is (match_from tree bytes 0) e)
      | Err f ↦ λ e. refl
    ]
