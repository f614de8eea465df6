-- The best match so far, from one column to the next, and at the end the match.
use Rattle.std.proofs.Common.{◌≡◌, ℕ, suc, ◌+◌, ◌-◌, ◌<◌, ◌≤◌, ◌⊎◌, inl, inr, List, [], ◌∷◌, ◌++◌, length, drop, Option, Some, None, Bool, true, false, cond, leb, ltb, refl, ap, sym, ◌∙◌, subst, arith}
use Rattle.std.proofs.lemmas.Bool.Decides.{nat_tests}
use Rattle.std.specs.Prelude.{◌&&◌, option_map, IfSome}
use Rattle.std.proofs.lemmas.Bool.{cases_lt}
use Rattle.bre_parse.specs.Tree.{Tree}
use Rattle.bre_parse.specs.Groups.{no_groups}
use Rattle.bre_parse.specs.Ways.{ways}
use Rattle.bre_parse.specs.WellFormed.{repeats_in_order}
use Rattle.bre_parse.specs.Match.{match_from}
use Rattle.bre_parse.specs.Groups.{refers}
use Rattle.bre_match.specs.Parts.{Part, Nothing, Never, One, AtStart, AtEnd, Both, Maybe, Star, Reaches, part_of}
use Rattle.bre_match.proofs.Columns.{Pending}
use Rattle.bre_match.specs.Columns.{peek, step}
use Rattle.bre_match.proofs.ColumnRuns.{unmarked}
use Rattle.bre_match.specs.Ends.{columns, out_of}
use Rattle.bre_match.specs.Marks.{fill, past, marks_of}
use Rattle.bre_match.specs.Spans.{better, none_up_to, is_over, start_and_end, SpansWithin}
use Rattle.bre_match.proofs.Columns.{forth}
use Rattle.bre_match.proofs.TreeReach.{ways_reach, reach_ways, reach_within, both_left, both_right}
use Rattle.bre_match.proofs.ColumnRuns.{columns_stand, out_comes, out_least, unmarked_part}
use Rattle.bre_match.proofs.ColumnRows.{column_of_row}
use Rattle.bre_match.proofs.FirstWay.{some_first, first_there, match_found, match_absent}

pub record Best (t : Part) (s : List ℕ) (from x b e : ℕ) : Type 0 where
  pub begins : from ≤ b
  pub there : Reaches t s b e
  pub before : e < x
  pub sooner : (p y : ℕ) → from ≤ p → p < b → y < x → Reaches t s p y → ⊥
  pub longer : (y : ℕ) → e < y → y < x → Reaches t s b y → ⊥

-- of the matches that end before a place the best, if there is one
abbrev pub BestOf : Part → List ℕ → (from x : ℕ) → Option (ℕ × ℕ) → Type 0
BestOf t s from x None = (p y : ℕ) → from ≤ p → y < x → Reaches t s p y → ⊥
BestOf t s from x (Some best) = Best t s from x best.0 best.1

-- where nothing gets out at a place, what stood stands
abbrev NoneOut : Part → List ℕ → (from x : ℕ) → Type 0
NoneOut t s from x = (p : ℕ) → from ≤ p → Reaches t s p x → ⊥

-- what gets out at a place is the least start from which the place is reached
record Out (t : Part) (s : List ℕ) (from x w : ℕ) : Type 0 where
  low : from ≤ w
  there : Reaches t s w x
  least : (p : ℕ) → from ≤ p → Reaches t s p x → w ≤ p

none_out : (t : Part) (s : List ℕ) (from n : ℕ) → out_of t s from (λ p. Some p) n ≡ None → NoneOut t s from (from + n)
none_out t s from n e p low r =
    let le = forth t s p (from + n) r in
    let a = out_least t s from (λ q. Some q) n p p low le (p, refl, omega arith) r in
    let b = a.1 in
    cc

an_out : (t : Part) (s : List ℕ) (from n w : ℕ) → unmarked t ≡ true → out_of t s from (λ p. Some p) n ≡ Some w → Out t s from (from + n) w
an_out t s from n w u e =
    let c = out_comes t s from (λ q. Some q) u n w e in
    let same : c.0 ≡ w = let f = c.3 in cc in
    let low = c.1 in
    record {
      low = omega arith;
      there = subst (λ p. Reaches t s p (from + n)) same c.4;
      least = λ p l r. least_of p l r;
    }
  where
    least_of : (p : ℕ) → from ≤ p → Reaches t s p (from + n) → w ≤ p
    least_of p l r =
        let le = forth t s p (from + n) r in
        let a = out_least t s from (λ q. Some q) n p p l le (p, refl, omega arith) r in
        let same : a.0 ≡ w = let f = a.1 in cc in
        let b = a.2 in
        omega arith

earlier_or_here : (y x : ℕ) → y < x + 1 → (y ≡ x) ⊎ (y < x)
earlier_or_here y x h = grind arith

-- one more place
pub next_best : (t : Part) (s : List ℕ) (from n x : ℕ) (best : Option (ℕ × ℕ)) (o : Option ℕ) → unmarked t ≡ true → x ≡ from + n → BestOf t s from x best → o ≡ out_of t s from (λ p. Some p) n → BestOf t s from (x + 1) (better best o x)
next_best t s from n x None None u is h e = λ p y low lt r.
    elim (earlier_or_here y x lt) [
      | inl here ↦ subst (λ z. NoneOut t s from z) (sym is) (none_out t s from n (sym e)) p low (subst (λ z. Reaches t s p z) here r)
      | inr earlier ↦ h p y low earlier r
    ]
next_best t s from n x (Some best) None u is h e =
    let none_here = subst (λ z. NoneOut t s from z) (sym is) (none_out t s from n (sym e)) in
    record {
      begins = h.begins;
      there = h.there;
      before = let a = h.before in omega arith;
      sooner = λ p y low lt before r. elim (earlier_or_here y x before) [ inl here ↦ none_here p low (subst (λ z. Reaches t s p z) here r) | inr earlier ↦ h.sooner p y low lt earlier r ];
      longer = λ y above before r. elim (earlier_or_here y x before) [ inl here ↦ none_here best.0 h.begins (subst (λ z. Reaches t s best.0 z) here r) | inr earlier ↦ h.longer y above earlier r ];
    }
next_best t s from n x None (Some w) u is h e =
    let out = subst (λ z. Out t s from z w) (sym is) (an_out t s from n w u (sym e)) in
    record {
      begins = out.low;
      there = out.there;
      before = omega arith;
      sooner = λ p y low lt before r. elim (earlier_or_here y x before) [ inl here ↦ (let le = out.least p low (subst (λ z. Reaches t s p z) here r) in absurd (omega arith)) | inr earlier ↦ h p y low earlier r ];
      longer = λ y above before r. absurd (omega arith);
    }
next_best t s from n x (Some best) (Some w) u is h e = by_cases (leb w best.0) refl
  where
    out : Out t s from x w
    out = subst (λ z. Out t s from z w) (sym is) (an_out t s from n w u (sym e))

    by_cases : (b : Bool) → leb w best.0 ≡ b → BestOf t s from (x + 1) (cond b (Some (w, x)) (Some best))
    by_cases true test =
        let le : w ≤ best.0 = grind (arith, nat_tests) in
        record {
          begins = out.low;
          there = out.there;
          before = omega arith;
          sooner = λ p y low lt before r. elim (earlier_or_here y x before) [ inl here ↦ (let l = out.least p low (subst (λ z. Reaches t s p z) here r) in absurd (omega arith)) | inr earlier ↦ h.sooner p y low (omega arith) earlier r ];
          longer = λ y above before r. absurd (omega arith);
        }
    by_cases false test =
        let lt2 : best.0 < w = grind (arith, nat_tests) in
        record {
          begins = h.begins;
          there = h.there;
          before = let a = h.before in omega arith;
          sooner = λ p y low lt before r. elim (earlier_or_here y x before) [ inl here ↦ (let l = out.least p low (subst (λ z. Reaches t s p z) here r) in absurd (omega arith)) | inr earlier ↦ h.sooner p y low lt earlier r ];
          longer = λ y above before r. elim (earlier_or_here y x before) [ inl here ↦ (let l = out.least best.0 h.begins (subst (λ z. Reaches t s best.0 z) here r) in absurd (omega arith)) | inr earlier ↦ h.longer y above earlier r ];
        }

-- No mark is as good

none_in_both : (b : ℕ) (xs ys : List (Option ℕ)) → none_up_to b (xs ++ ys) ≡ true → (none_up_to b xs ≡ true) × (none_up_to b ys ≡ true)
none_in_both b [] ys e = (refl, e)
none_in_both b (None ∷ xs) ys e = none_in_both b xs ys e
none_in_both b (Some w ∷ xs) ys e =
    let i = none_in_both b xs ys (both_right (ltb b w) (none_up_to b (xs ++ ys)) e) in
    (ap (λ z. z && none_up_to b xs) (both_left (ltb b w) (none_up_to b (xs ++ ys)) e) ∙ i.0, i.1)

marks_above : (t : Part) (s : List ℕ) (b x y w : ℕ) → none_up_to b (marks_of t) ≡ true → Pending t s x y w → b < w
marks_above Nothing s b x y w e h = absurd h
marks_above Never s b x y w e h = absurd h
marks_above (One n r None) s b x y w e h = absurd (let f = h.1 in cc)
marks_above (One n r (Some v)) s b x y w e h =
    let f = h.1 in
    let same : v ≡ w = cc in
    let test = both_left (ltb b v) true e in
    grind (arith, nat_tests)
marks_above AtStart s b x y w e h = absurd h
marks_above AtEnd s b x y w e h = absurd h
marks_above (Both a c) s b x y w e h =
    let i = none_in_both b (marks_of a) (marks_of c) e in
    elim h [ inl j ↦ marks_above c s b x y w i.1 j | inr j ↦ marks_above a s b x j.0 w i.0 j.1 ]
marks_above (Maybe a) s b x y w e h = marks_above a s b x y w e h
marks_above (Star a) s b x y w e h = marks_above a s b x h.0 w e h.1

none_later : (t : Part) (s : List ℕ) (from n x b : ℕ) → x ≡ from + n → none_up_to b (marks_of (columns t s from (λ p. Some p) n)) ≡ true → (p y : ℕ) → from ≤ p → p ≤ b → b < x → x ≤ y → Reaches t s p y → ⊥
none_later t s from n x b is e p y low le lt high r =
    let st = columns_stand t s from (λ q. Some q) n p y p low (omega arith) (omega arith) (p, refl, omega arith) r in
    let above = marks_above (columns t s from (λ q. Some q) n) s b (from + n) y st.0 e st.2 in
    let a = st.1 in
    omega arith

-- where no mark is as good, the best so far is the best of all
pub best_of_all : (t : Part) (s : List ℕ) (from n x last : ℕ) (best : Option (ℕ × ℕ)) → x ≡ from + n → is_over best (marks_of (columns t s from (λ p. Some p) n)) ≡ true → x ≤ last → BestOf t s from x best → BestOf t s from last best
best_of_all t s from n x last None is over le h = absurd (cc)
best_of_all t s from n x last (Some best) is over le h =
    let order = forth t s best.0 best.1 h.there in
    let early = h.before in
    record {
      begins = h.begins;
      there = h.there;
      before = omega arith;
      sooner = λ p y low lt before r. elim (cases_lt y x) [ inl i ↦ h.sooner p y low lt i r | inr i ↦ none_later t s from n x best.0 is over p y low (omega arith) (omega arith) i r ];
      longer = λ y above before r. elim (cases_lt y x) [ inl i ↦ h.longer y above i r | inr i ↦ none_later t s from n x best.0 is over best.0 y h.begins (omega arith) (omega arith) i r ];
    }

-- The match

pub best_is_match : (t : Tree) (s : List ℕ) (from : ℕ) (best : Option (ℕ × ℕ)) → refers t ≡ false → repeats_in_order t ≡ true → from ≤ length s → BestOf (part_of t) s from (length s + 1) best → best ≡ option_map start_and_end (match_from t s from)
best_is_match t s from None free order le h =
    sym (ap (λ o. option_map start_and_end o) (match_absent t s from le (λ p m low high i.
    let r = ways_reach t free order s p m no_groups i in
    let within = reach_within (part_of t) s p m high r in
    h p m low (omega arith) r)))
best_is_match t s from (Some best) free order le h =
    let b = best.0 in
    let e = best.1 in
    let up = forth (part_of t) s best.0 best.1 h.there in
    let early : best.1 < length s + 1 = h.before in
    let b_in : best.0 ≤ length s = omega arith in
    let has = reach_ways t free order s b e no_groups b_in h.there in
    let w = some_first e (ways t s b no_groups) has in
    let ends_there = (first_there e (ways t s b no_groups) w.0 w.1).0 in
    ap (λ z. Some (b, z)) (sym ends_there)
    ∙ sym (ap (λ o. option_map start_and_end o) (match_found t s from b e w.0 h.begins b_in
    (λ p m low lt i.
    let r = ways_reach t free order s p m no_groups i in
    let within = reach_within (part_of t) s p m (omega arith) r in
    h.sooner p m low lt (omega arith) r)
    has
    (λ m i.
    let r = ways_reach t free order s b m no_groups i in
    let within = reach_within (part_of t) s b m b_in r in
    not_longer m e (λ lt. h.longer m lt (omega arith) r))
    w.1))
  where
    not_longer : (m e : ℕ) → (e < m → ⊥) → m ≤ e
    not_longer m e no_way = elim (cases_lt e m) [ inl lt ↦ absurd (no_way lt) | inr le2 ↦ le2 ]

-- Columns in rows

pub no_marks : (t : Part) → unmarked t ≡ true → (fill t [] ≡ t) × (past t [] ≡ [])
no_marks Nothing u = (refl, refl)
no_marks Never u = (refl, refl)
no_marks (One n r None) u = (refl, refl)
no_marks (One n r (Some v)) u = absurd (cc)
no_marks AtStart u = (refl, refl)
no_marks AtEnd u = (refl, refl)
no_marks (Both a b) u =
    let i = no_marks a (both_left (unmarked a) (unmarked b) u) in
    let j = no_marks b (both_right (unmarked a) (unmarked b) u) in
    (ap (λ p. Both p (fill b (past a []))) i.0 ∙ ap (λ l. Both a (fill b l)) i.1 ∙ ap (λ p. Both a p) j.0, ap (λ l. past b l) i.1 ∙ j.1)
no_marks (Maybe a) u = let i = no_marks a u in (ap Maybe i.0, i.1)
no_marks (Star a) u = let i = no_marks a u in (ap Star i.0, i.1)

-- What the search keeps
pub record Searched (t : Tree) (s : List ℕ) (from x : ℕ) (marks : List (Option ℕ)) (best : Option (ℕ × ℕ)) : Type 0 where
  pub low : from ≤ x
  pub high : x ≤ length s + 1
  pub column : fill (part_of t) marks ≡ columns (part_of t) s from (λ p. Some p) (x - from)
  pub so_far : BestOf (part_of t) s from x best

pub begins : (t : Tree) (s : List ℕ) (from : ℕ) → from ≤ length s → Searched t s from from [] None
begins t s from le = record {
  low = omega arith;
  high = omega arith;
  column = (no_marks (part_of t) (unmarked_part t)).0 ∙ sym (ap (λ n. columns (part_of t) s from (λ p. Some p) n) (let e : from - from ≡ 0 = omega arith in e));
  so_far = λ p y low lt r. let up = forth (part_of t) s p y r in absurd (omega arith);
}

pub row_next : (t : Tree) (s : List ℕ) (from x : ℕ) (marks next : List (Option ℕ)) (best : Option (ℕ × ℕ)) → Searched t s from x marks best → next ≡ marks_of (step (fill (part_of t) marks) s x (Some x)) → next ≡ marks_of (columns (part_of t) s from (λ p. Some p) (suc (x - from)))
row_next t s from x marks next best h e =
    let low = h.low in
    let is : x ≡ from + (x - from) = omega arith in
    e ∙ ap (λ c. marks_of (step c s x (Some x))) h.column ∙ ap (λ z. marks_of (step (columns (part_of t) s from (λ p. Some p) (x - from)) s z (Some z))) is

pub best_next : (t : Tree) (s : List ℕ) (from x : ℕ) (marks : List (Option ℕ)) (best new : Option (ℕ × ℕ)) (o : Option ℕ) → Searched t s from x marks best → o ≡ peek (fill (part_of t) marks) s x (Some x) → new ≡ better best o x → BestOf (part_of t) s from (x + 1) new
best_next t s from x marks best new o h e f =
    let low = h.low in
    let is : x ≡ from + (x - from) = omega arith in
    subst (λ z. BestOf (part_of t) s from (x + 1) z) (sym f)
    (next_best (part_of t) s from (x - from) x best o (unmarked_part t) is h.so_far
    (e ∙ ap (λ c. peek c s x (Some x)) h.column ∙ ap (λ z. peek (columns (part_of t) s from (λ p. Some p) (x - from)) s z (Some z)) is))

pub goes_on : (t : Tree) (s : List ℕ) (from x : ℕ) (marks next : List (Option ℕ)) (best new : Option (ℕ × ℕ)) (o : Option ℕ) → x ≤ length s → Searched t s from x marks best → next ≡ marks_of (step (fill (part_of t) marks) s x (Some x)) → o ≡ peek (fill (part_of t) marks) s x (Some x) → new ≡ better best o x → Searched t s from (x + 1) next new
goes_on t s from x marks next best new o le h r e f =
    let low = h.low in
    record {
      low = omega arith;
      high = omega arith;
      column =
          column_of_row (part_of t) s from (λ p. Some p) (suc (x - from)) next (row_next t s from x marks next best h r)
          ∙ ap (λ n. columns (part_of t) s from (λ p. Some p) n) (let i : suc (x - from) ≡ x + 1 - from = omega arith in i);
      so_far = best_next t s from x marks best new o h e f;
    }

pub ends_early : (t : Tree) (s : List ℕ) (from x : ℕ) (marks next : List (Option ℕ)) (best new : Option (ℕ × ℕ)) (o : Option ℕ) → refers t ≡ false → repeats_in_order t ≡ true → from ≤ length s → x ≤ length s → Searched t s from x marks best → next ≡ marks_of (step (fill (part_of t) marks) s x (Some x)) → o ≡ peek (fill (part_of t) marks) s x (Some x) → new ≡ better best o x → is_over new next ≡ true → new ≡ option_map start_and_end (match_from t s from)
ends_early t s from x marks next best new o free order lf le h r e f over =
    let low = h.low in
    best_is_match t s from new free order lf
    (best_of_all (part_of t) s from (suc (x - from)) (x + 1) (length s + 1) new (omega arith)
    (sym (ap (λ l. is_over new l) (row_next t s from x marks next best h r)) ∙ over) (omega arith)
    (best_next t s from x marks best new o h e f))

pub ends : (t : Tree) (s : List ℕ) (from x : ℕ) (marks : List (Option ℕ)) (best : Option (ℕ × ℕ)) → refers t ≡ false → repeats_in_order t ≡ true → from ≤ length s → length s < x → Searched t s from x marks best → best ≡ option_map start_and_end (match_from t s from)
ends t s from x marks best free order lf lt h =
    let high = h.high in
    best_is_match t s from best free order lf
    (subst (λ z. BestOf (part_of t) s from z best) (let e : x ≡ length s + 1 = omega arith in e) h.so_far)

pub row_made : (t : Tree) (s : List ℕ) (x : ℕ) (w : Option ℕ) (next cleared ms marks : List (Option ℕ)) → next ≡ cleared ++ marks_of (step (fill (part_of t) (drop 0 ms)) s x w) → cleared ≡ [] → ms ≡ marks → next ≡ marks_of (step (fill (part_of t) marks) s x w)
row_made t s x w next cleared ms marks e c m =
    e ∙ ap (λ l. l ++ marks_of (step (fill (part_of t) ms) s x w)) c ∙ ap (λ l. marks_of (step (fill (part_of t) l) s x w)) m

pub out_made : (t : Tree) (s : List ℕ) (x : ℕ) (w o : Option ℕ) (ms marks : List (Option ℕ)) → o ≡ peek (fill (part_of t) (drop 0 ms)) s x w → ms ≡ marks → o ≡ peek (fill (part_of t) marks) s x w
out_made t s x w o ms marks e m = e ∙ ap (λ l. peek (fill (part_of t) l) s x w) m

pub lies_within : (t : Part) (s : List ℕ) (from x last : ℕ) (best : ℕ × ℕ) → x ≤ last + 1 → BestOf t s from x (Some best) → SpansWithin from last best
lies_within t s from x last best le h =
    let up = forth t s best.0 best.1 h.there in
    let early = h.before in
    (h.begins, up, omega arith)

pub found_within : (t : Part) (s : List ℕ) (from x last : ℕ) (best : Option (ℕ × ℕ)) → x ≤ last + 1 → BestOf t s from x best → IfSome best (SpansWithin from last)
found_within t s from x last None le h = tt
found_within t s from x last (Some best) le h = lies_within t s from x last best le h
