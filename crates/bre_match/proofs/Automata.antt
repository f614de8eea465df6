-- What an automaton keeps of a step holds in each text, and one gets out somewhere exactly where there is a match.
use Rattle.std.proofs.Common.{◌≡◌, ℕ, zero, suc, ◌+◌, ◌-◌, ◌<◌, ◌≤◌, ◌⊎◌, inl, inr, List, [], ◌∷◌, length, Option, Some, None, Bool, true, false, cond, ltb, eqb, refl, ap, ◌∙◌, subst, arith, slice_get}
use Rattle.std.specs.Prelude.{is_some}
use Rattle.std.proofs.lemmas.Bool.{cases_lt}
use Rattle.bre_parse.specs.Tree.{Tree}
use Rattle.bre_parse.specs.Groups.{no_groups, refers}
use Rattle.bre_parse.specs.Ways.{Way, ways, by_end, insert_way, has_byte_in}
use Rattle.bre_parse.specs.WellFormed.{repeats_in_order}
use Rattle.bre_parse.specs.Match.{first, longest_from, or_later, match_among, match_from}
use Rattle.bre_match.specs.Laws.{Has}
use Rattle.bre_match.specs.Parts.{Part, Nothing, Never, One, AtStart, AtEnd, Both, Maybe, Star, Reaches, part_of}
use Rattle.bre_match.specs.Columns.{less_of, where_true, peek, step}
use Rattle.bre_match.specs.Ends.{columns, out_of}
use Rattle.bre_match.specs.States.{any_start}
use Rattle.bre_match.proofs.Columns.{Pending, forth}
use Rattle.bre_match.proofs.TreeReach.{ways_reach, reach_ways, reach_within}
use Rattle.bre_match.proofs.ColumnRuns.{unmarked, none_pending, columns_stand, out_comes, out_least, unmarked_part}
use Rattle.bre_match.proofs.FirstWay.{match_absent, none_from}
use Rattle.bre_match.proofs.Needs.{match_passed_to}

-- A step looks at the byte at its place, and whether that is the start or the end

-- two places of two texts look alike
pub record Alike (s : List ℕ) (x : ℕ) (t : List ℕ) (y : ℕ) : Type 0 where
  pub byte : slice_get s x ≡ slice_get t y
  pub start : eqb x 0 ≡ eqb y 0
  pub end : eqb x (length s) ≡ eqb y (length t)

pub same_peek : (p : Part) (s : List ℕ) (x : ℕ) (t : List ℕ) (y : ℕ) (f : Option ℕ) → Alike s x t y → peek p s x f ≡ peek p t y f
same_peek Nothing s x t y f h = refl
same_peek Never s x t y f h = refl
same_peek (One n r m) s x t y f h = refl
same_peek AtStart s x t y f h = ap (λ b. where_true b f) h.start
same_peek AtEnd s x t y f h = ap (λ b. where_true b f) h.end
same_peek (Both a b) s x t y f h =
    same_peek b s x t y (peek a s x f) h ∙ ap (λ w. peek b t y w) (same_peek a s x t y f h)
same_peek (Maybe a) s x t y f h = ap (λ w. less_of f w) (same_peek a s x t y f h)
same_peek (Star a) s x t y f h = ap (λ w. less_of f w) (same_peek a s x t y f h)

pub same_step : (p : Part) (s : List ℕ) (x : ℕ) (t : List ℕ) (y : ℕ) (f : Option ℕ) → Alike s x t y → step p s x f ≡ step p t y f
same_step Nothing s x t y f h = refl
same_step Never s x t y f h = refl
same_step (One n r m) s x t y f h = ap (λ b. One n r (where_true (has_byte_in n r b) f)) h.byte
same_step AtStart s x t y f h = refl
same_step AtEnd s x t y f h = refl
same_step (Both a b) s x t y f h =
    ap (λ c. Both c (step b s x (peek a s x f))) (same_step a s x t y f h)
    ∙ ap (λ c. Both (step a t y f) c) (same_step b s x t y (peek a s x f) h)
    ∙ ap (λ w. Both (step a t y f) (step b t y w)) (same_peek a s x t y f h)
same_step (Maybe a) s x t y f h = ap Maybe (same_step a s x t y f h)
same_step (Star a) s x t y f h =
    ap Star (same_step a s x t y (less_of f (peek a s x f)) h)
    ∙ ap (λ w. Star (step a t y (less_of f w))) (same_peek a s x t y f h)

-- One gets out somewhere where there is a match

inserted : (w : Way) (ws : List Way) → is_some (first (insert_way w ws)) ≡ true
inserted w [] = refl
inserted w (v ∷ vs) = by_cases (ltb w.0 v.0)
  where
    by_cases : (b : Bool) → is_some (first (cond b (v ∷ insert_way w vs) (w ∷ v ∷ vs))) ≡ true
    by_cases true = refl
    by_cases false = refl

some_way : (m : ℕ) (ws : List Way) → Has m ws → is_some (first (by_end ws)) ≡ true
some_way m [] h = absurd h
some_way m (w ∷ ws) h = inserted w (by_end ws)

here_or_later : (p q : ℕ) → p ≤ q → (q ≡ p) ⊎ (p + 1 ≤ q)
here_or_later p q le = grind arith

some_later : (o : Option Way) (p : ℕ) (later : Option (ℕ × Way)) → is_some later ≡ true → is_some (or_later o p later) ≡ true
some_later None p later e = e
some_later (Some w) p later e = refl

some_here : (o : Option Way) (p : ℕ) (later : Option (ℕ × Way)) → is_some o ≡ true → is_some (or_later o p later) ≡ true
some_here None p later e = absurd (cc)
some_here (Some w) p later e = refl

some_among : (n : ℕ) (t : Tree) (s : List ℕ) (p q m : ℕ) → p ≤ q → q < p + n → Has m (ways t s q no_groups) →
    is_some (match_among n t s p) ≡ true
some_among zero t s p q m low high h = absurd (omega arith)
some_among (suc n) t s p q m low high h =
    elim (here_or_later p q low) [
      | inl here ↦
          some_here (longest_from t s p) p (match_among n t s (p + 1))
          (some_way m (ways t s p no_groups) (subst (λ z. Has m (ways t s z no_groups)) here h))
      | inr later ↦
          some_later (longest_from t s p) p (match_among n t s (p + 1)) (some_among n t s (p + 1) q m later (omega arith) h)
    ]

pub out_is_match : (t : Tree) (s : List ℕ) (from n : ℕ) → refers t ≡ false → repeats_in_order t ≡ true → from + n ≤ length s →
    is_some (out_of (part_of t) s from any_start n) ≡ true → is_some (match_from t s from) ≡ true
out_is_match t s from n free order le e = by_cases (out_of (part_of t) s from any_start n) refl e
  where
    by_cases : (o : Option ℕ) → out_of (part_of t) s from any_start n ≡ o → is_some o ≡ true → is_some (match_from t s from) ≡ true
    by_cases None is e = absurd (cc)
    by_cases (Some w) is e =
        let c = out_comes (part_of t) s from any_start (unmarked_part t) n w is in
        let low = c.1 in
        let high = c.2 in
        let i = reach_ways t free order s c.0 (from + n) no_groups (omega arith) c.4 in
        some_among (suc (length s - from)) t s from c.0 (from + n) low (omega arith) i

-- what can be reached comes out
reached_out : (part : Part) (s : List ℕ) (from n p y : ℕ) → from ≤ p → p ≤ y → y ≡ from + n → out_of part s from any_start n ≡ None →
    Reaches part s p y → ⊥
reached_out part s from n p y low high is none r =
    let a = out_least part s from any_start n p 0 low (omega arith) (0, refl, omega arith) (subst (λ z. Reaches part s p z) is r) in
    let e = a.1 in
    cc

-- where nothing came out up to the end, there is no match
pub none_out_no_match : (t : Tree) (s : List ℕ) (from : ℕ) → refers t ≡ false → repeats_in_order t ≡ true → from ≤ length s →
    ((n : ℕ) → from + n ≤ length s → out_of (part_of t) s from any_start n ≡ None) → match_from t s from ≡ None
none_out_no_match t s from free order le h =
    match_absent t s from le (λ p m low high i.
    let r = ways_reach t free order s p m no_groups i in
    let within = reach_within (part_of t) s p m high r in
    no_way p m low within r)
  where
    no_way : (p m : ℕ) → from ≤ p → m ≤ length s → Reaches (part_of t) s p m → ⊥
    no_way p m low within r =
        let up = forth (part_of t) s p m r in
        let is : m ≡ from + (m - from) = omega arith in
        reached_out (part_of t) s from (m - from) p m low up is (h (m - from) (omega arith)) r

-- Where there is no mark, no start before leads on

pub none_before : (part : Part) (s : List ℕ) (from n : ℕ) → unmarked part ≡ true → columns part s from any_start n ≡ part →
    ((m : ℕ) → m < n → out_of part s from any_start m ≡ None) → (p y : ℕ) → from ≤ p → p < from + n → Reaches part s p y → ⊥
none_before part s from n u c h p y low lt r =
    let up = forth part s p y r in
    elim (cases_lt y (from + n)) [
      | inl before ↦ (
          let is : y ≡ from + (y - from) = omega arith in
          reached_out part s from (y - from) p y low up is (h (y - from) (omega arith)) r)
      | inr after ↦ (
          let st = columns_stand part s from any_start n p y 0 low lt after (0, refl, omega arith) r in
          none_pending part s (from + n) y st.0 u (subst (λ q. Pending q s (from + n) y st.0) c st.2))
    ]

-- starts that lead nowhere may be passed over
pub passed_over : (t : Tree) (s : List ℕ) (from start : ℕ) → refers t ≡ false → repeats_in_order t ≡ true → from ≤ start →
    start ≤ length s → ((p y : ℕ) → from ≤ p → p < start → Reaches (part_of t) s p y → ⊥) → match_from t s start ≡ match_from t s from
passed_over t s from start free order low high h =
    match_passed_to t s from start low high
    (λ k l lt. none_from t s k (λ m i. h k m l lt (ways_reach t free order s k m no_groups i)))
