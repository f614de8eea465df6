-- A run from one start: which place the last way from there ends at.
use Rattle.std.proofs.Common.{◌≡◌, ℕ, zero, suc, ◌+◌, ◌-◌, ◌<◌, ◌≤◌, ◌⊎◌, inl, inr, List, [], ◌∷◌, length, get_or, Option, Some, None, Bool, true, false, cond, eqb, leb, refl, ap, sym, ◌∙◌, subst, arith, slice_get}
use Rattle.std.proofs.lemmas.Bool.Decides.{nat_tests}
use Rattle.std.proofs.lemmas.List.{get_or_default}
use Rattle.std.specs.Prelude.{is_some, option_map}
use Rattle.bre_parse.specs.Tree.{Tree}
use Rattle.bre_parse.specs.Groups.{no_groups, refers}
use Rattle.bre_parse.specs.WellFormed.{repeats_in_order}
use Rattle.bre_parse.specs.Match.{longest_from, match_from}
use Rattle.bre_match.specs.declared.state.Starts.TheVariants as kind
use Rattle.bre_match.specs.Parts.{Part, One, Both, Nothing, Reaches, part_of}
use Rattle.bre_match.specs.Columns.{where_true, peek, step}
use Rattle.bre_match.specs.Marks.{fill, marks_of}
use Rattle.bre_match.specs.Ends.{columns, out_of}
use Rattle.bre_match.specs.Spans.{start_and_end, SpansWithin}
use Rattle.bre_match.specs.States.{part_for, transition}
use Rattle.bre_match.specs.Automata.{state_in, meaning_of, IsEntry, Serves}
use Rattle.bre_match.specs.Scans.{told_end, IsLastEnd}
use Rattle.bre_match.proofs.Columns.{Pending, forth}
use Rattle.bre_match.proofs.TreeReach.{ways_reach, reach_within}
use Rattle.bre_match.proofs.ColumnRuns.{unmarked, none_pending, columns_stand, out_comes, out_least, unmarked_part}
use Rattle.bre_match.proofs.ColumnRows.{column_of_row}
use Rattle.bre_match.proofs.ColumnSearch.{best_is_match, no_marks}
use Rattle.bre_match.proofs.FirstWay.{none_from}
use Rattle.bre_match.proofs.Needs.{match_passed_to}
use Rattle.bre_match.proofs.AutomatonTables.{no_byte, meaning_is_known, entry_says}
use Rattle.bre_match.proofs.AutomatonRuns.{fill_state}

-- one start enters, with the weight of all starts
abbrev pub only : (start : ℕ) → ℕ → Option ℕ
only start place = where_true (eqb place start) (Some 0)

only_here : (c x : ℕ) → x ≡ c → only c x ≡ Some 0
only_here c x e = ap (λ b. where_true b (Some 0)) (let f : eqb x c ≡ true = grind (arith, nat_tests) in f)

only_there : (c x : ℕ) → c < x → only c x ≡ None
only_there c x lt = ap (λ b. where_true b (Some 0)) (let f : eqb x c ≡ false = grind (arith, nat_tests) in f)

only_one : (c x w : ℕ) → only c x ≡ Some w → x ≡ c
only_one c x w e = by_cases (eqb x c) refl e
  where
    by_cases : (b : Bool) → eqb x c ≡ b → where_true b (Some 0) ≡ Some w → x ≡ c
    by_cases true f g = grind (arith, nat_tests)
    by_cases false f g = absurd (cc)

-- the last place before this one at which a way from the start ends
abbrev pub LastOf : Part → List ℕ → (start place : ℕ) → Option ℕ → Type 0
LastOf part text start place None = (y : ℕ) → y < place → Reaches part text start y → ⊥
LastOf part text start place (Some end) =
    (end < place) × Reaches part text start end × ((y : ℕ) → end < y → y < place → Reaches part text start y → ⊥)

-- What gets out is what is reached

no_way_here : (part : Part) (s : List ℕ) (c n : ℕ) → out_of part s c (only c) n ≡ None → Reaches part s c (c + n) → ⊥
no_way_here part s c n e r =
    let a = out_least part s c (only c) n c 0 (omega arith) (omega arith) (0, only_here c c refl, omega arith) r in
    let f = a.1 in
    cc

a_way_here : (part : Part) (s : List ℕ) (c n w : ℕ) → unmarked part ≡ true → out_of part s c (only c) n ≡ Some w → Reaches part s c (c + n)
a_way_here part s c n w u e =
    let o = out_comes part s c (only c) u n w e in
    subst (λ p. Reaches part s p (c + n)) (only_one c o.0 w o.3) o.4

earlier_or_here : (y x : ℕ) → y < x + 1 → (y ≡ x) ⊎ (y < x)
earlier_or_here y x h = grind arith

last_next : (part : Part) (s : List ℕ) (c n x : ℕ) (best : Option ℕ) (o : Option ℕ) (is_end : Bool) → unmarked part ≡ true → x ≡ c + n →
    LastOf part s c x best → o ≡ out_of part s c (only c) n → is_end ≡ is_some o → LastOf part s c (x + 1) (cond is_end (Some x) best)
last_next part s c n x best (Some w) true u is h e f =
    (omega arith, subst (λ z. Reaches part s c z) (sym is) (a_way_here part s c n w u (sym e)), λ y lt high r. absurd (omega arith))
last_next part s c n x best None true u is h e f = absurd (cc)
last_next part s c n x best (Some w) false u is h e f = absurd (cc)
last_next part s c n x None None false u is h e f = λ y lt r.
    elim (earlier_or_here y x lt) [
      | inl here ↦ no_way_here part s c n (sym e) (subst (λ z. Reaches part s c z) (here ∙ is) r)
      | inr earlier ↦ h y earlier r
    ]
last_next part s c n x (Some end) None false u is h e f = (
  let a = h.0 in omega arith,
  h.1,
  λ y lt high r.
      elim (earlier_or_here y x high) [
        | inl here ↦ no_way_here part s c n (sym e) (subst (λ z. Reaches part s c z) (here ∙ is) r)
        | inr earlier ↦ h.2 y lt earlier r
      ],
)

-- The run

pub record EndRun (t : Tree) (s : List ℕ) (c : ℕ) (states : List (List (Option ℕ))) (table : List ℕ) (x state : ℕ) (best : Option ℕ) : Type 0 where
  pub serves : Serves kind.First (part_of t) states table
  pub begun : 2 ≤ length states
  pub within : state < length states
  pub start : eqb x 0 ≡ eqb state 0
  pub low : c ≤ x
  pub high : x ≤ length s + 1
  pub column : fill (part_for kind.First (part_of t)) (get_or states state []) ≡
      Both (One false [] (only c x)) (columns (part_of t) s c (only c) (x - c))
  pub last : LastOf (part_of t) s c x best

first_state_row : (states : List (List (Option ℕ))) (state : ℕ) → state < 2 → get_or states 0 (Some 0 ∷ []) ≡ Some 0 ∷ [] →
    get_or states 1 (Some 0 ∷ []) ≡ Some 0 ∷ [] → get_or states state (Some 0 ∷ []) ≡ Some 0 ∷ []
first_state_row states zero lt e f = e
first_state_row states (suc zero) lt e f = f
first_state_row states (suc (suc n)) lt e f = absurd (omega arith)

pub end_run_begins : (t : Tree) (s : List ℕ) (c : ℕ) (states : List (List (Option ℕ))) (table : List ℕ) (state : ℕ) → c ≤ length s →
    2 ≤ length states → state < 2 → eqb c 0 ≡ eqb state 0 → Serves kind.First (part_of t) states table →
    EndRun t s c states table c state None
end_run_begins t s c states table state le begun lt start h = record {
  serves = h;
  begun = begun;
  within = omega arith;
  start = start;
  low = omega arith;
  high = omega arith;
  column =
      ap (fill (part_for kind.First (part_of t)))
      (get_or_default states state [] (Some 0 ∷ []) (omega arith) ∙ first_state_row states state lt h.first h.second)
      ∙ ap (λ p. Both (One false [] (Some 0)) p) (no_marks (part_of t) (unmarked_part t)).0
      ∙ ap (λ w. Both (One false [] w) (part_of t)) (sym (only_here c c refl))
      ∙ ap (λ n. Both (One false [] (only c c)) (columns (part_of t) s c (only c) n)) (let e : 0 ≡ c - c = omega arith in e);
  last = λ y lt2 r. let up = forth (part_of t) s c y r in absurd (omega arith);
}

out_there : (t : Tree) (s : List ℕ) (c x : ℕ) (row : List (Option ℕ)) → c ≤ x →
    fill (part_for kind.First (part_of t)) row ≡ Both (One false [] (only c x)) (columns (part_of t) s c (only c) (x - c)) →
    peek (fill (part_for kind.First (part_of t)) row) s x (Some 0) ≡ out_of (part_of t) s c (only c) (x - c)
out_there t s c x row low e =
    ap (λ p. peek p s x (Some 0)) e
    ∙ ap (λ z. peek (columns (part_of t) s c (only c) (x - c)) s z (only c z)) (let f : x ≡ c + (x - c) = omega arith in f)

column_there : (t : Tree) (s : List ℕ) (c x : ℕ) (row : List (Option ℕ)) → c ≤ x →
    fill (part_for kind.First (part_of t)) row ≡ Both (One false [] (only c x)) (columns (part_of t) s c (only c) (x - c)) →
    marks_of (step (fill (part_for kind.First (part_of t)) row) s x (Some 0)) ≡
    only c (x + 1) ∷ marks_of (columns (part_of t) s c (only c) (suc (x - c)))
column_there t s c x row low e =
    ap (λ p. marks_of (step p s x (Some 0))) e
    ∙ ap (λ b. where_true b (Some 0) ∷ marks_of (step (columns (part_of t) s c (only c) (x - c)) s x (only c x))) (no_byte (slice_get s x))
    ∙ ap (λ w. w ∷ marks_of (step (columns (part_of t) s c (only c) (x - c)) s x (only c x))) (sym (only_there c (x + 1) (omega arith)))
    ∙ ap (λ z. only c (x + 1) ∷ marks_of (step (columns (part_of t) s c (only c) (x - c)) s z (only c z)))
    (let f : x ≡ c + (x - c) = omega arith in f)

pub end_run_goes_on : (t : Tree) (s : List ℕ) (c : ℕ) (states old : List (List (Option ℕ))) (table before : List ℕ)
    (x state entry next : ℕ) (best new : Option ℕ) → x ≤ length s → EndRun t s c old before x state best → 2 ≤ length states →
    Serves kind.First (part_of t) states table → IsEntry states entry →
    meaning_of states entry ≡ Some (transition (part_for kind.First (part_of t)) (get_or old state []) s x) → next ≡ state_in entry →
    new ≡ cond (leb 256 entry) (Some x) best → EndRun t s c states table (x + 1) next new
end_run_goes_on t s c states old table before x state entry next best new le h begun serves good tells is e = record {
  serves = serves;
  begun = begun;
  within = number.1;
  start =
      let a = number.0 in
      let f : eqb (x + 1) 0 ≡ false = grind (arith, nat_tests) in
      let g : eqb next 0 ≡ false = grind (arith, nat_tests) in
      f ∙ sym g;
  low = let l = h.low in omega arith;
  high = omega arith;
  column =
      ap (λ i. fill (part_for kind.First (part_of t)) (get_or states i [])) is
      ∙ ap (fill (part_for kind.First (part_of t))) says.1
      ∙ fill_state (part_for kind.First (part_of t))
      (marks_of (step (fill (part_for kind.First (part_of t)) (get_or old state [])) s x (Some 0)))
      ∙ ap (fill (part_for kind.First (part_of t))) (column_there t s c x (get_or old state []) h.low h.column)
      ∙ ap (λ p. Both (One false [] (only c (x + 1))) p)
      (column_of_row (part_of t) s c (only c) (suc (x - c)) (marks_of (columns (part_of t) s c (only c) (suc (x - c)))) refl)
      ∙ ap (λ n. Both (One false [] (only c (x + 1))) (columns (part_of t) s c (only c) n))
      (let l = h.low in let f : suc (x - c) ≡ x + 1 - c = omega arith in f);
  last =
      subst (λ z. LastOf (part_of t) s c (x + 1) z) (sym e)
      (last_next (part_of t) s c (x - c) x best (peek (fill (part_for kind.First (part_of t)) (get_or old state [])) s x (Some 0))
      (leb 256 entry) (unmarked_part t) (let l = h.low in omega arith) h.last
      (out_there t s c x (get_or old state []) h.low h.column) says.0);
}
  where
    says : (leb 256 entry ≡ is_some (peek (fill (part_for kind.First (part_of t)) (get_or old state [])) s x (Some 0))) ×
        (get_or states (state_in entry) [] ≡ (transition (part_for kind.First (part_of t)) (get_or old state []) s x).1)
    says = entry_says states entry _ _ tells

    number : (0 < next) × (next < length states)
    number =
        let known = meaning_is_known states entry _ tells in
        subst (λ i. (0 < i) × (i < length states)) (sym is) (good (grind (arith, nat_tests)))

-- Its end

end_of_all : (part : Part) (s : List ℕ) (c x : ℕ) (best : Option ℕ) → ((y : ℕ) → x ≤ y → Reaches part s c y → ⊥) → LastOf part s c x best →
    IsLastEnd part s c (told_end best)
end_of_all part s c x None none h = λ y r. elim (place_before y x) [ inl lt ↦ h y lt r | inr le ↦ none y le r ]
  where
    place_before : (y x : ℕ) → (y < x) ⊎ (x ≤ y)
    place_before y x = grind arith
end_of_all part s c x (Some end) none h =
    (h.1, λ y lt r. elim (place_before y x) [ inl before ↦ h.2 y lt before r | inr le ↦ none y le r ])
  where
    place_before : (y x : ℕ) → (y < x) ⊎ (x ≤ y)
    place_before y x = grind arith

-- the part that comes second
abbrev second : Part → Part
second (Both a b) = b
second _ = Nothing

-- at a state without marks
pub end_run_dies : (t : Tree) (s : List ℕ) (c : ℕ) (states : List (List (Option ℕ))) (table : List ℕ) (x state : ℕ) (best : Option ℕ) →
    c < x → EndRun t s c states table x state best → get_or states state [] ≡ [] → IsLastEnd (part_of t) s c (told_end best)
end_run_dies t s c states table x state best lt h no_row =
    end_of_all (part_of t) s c x best
    (λ y le r.
    let st = columns_stand (part_of t) s c (only c) (x - c) c y 0 (omega arith) (omega arith) (omega arith) (0, only_here c c refl, omega arith) r in
    none_pending (part_of t) s (c + (x - c)) y st.0 (unmarked_part t) (subst (λ p. Pending p s (c + (x - c)) y st.0) is_part st.2))
    h.last
  where
    is_part : columns (part_of t) s c (only c) (x - c) ≡ part_of t
    is_part =
        ap second (sym h.column ∙ ap (fill (part_for kind.First (part_of t))) no_row)
        ∙ (no_marks (part_of t) (unmarked_part t)).0

-- at the end of the text
pub end_run_ends : (t : Tree) (s : List ℕ) (c : ℕ) (states : List (List (Option ℕ))) (table : List ℕ) (x state : ℕ) (best : Option ℕ) →
    c ≤ length s → length s < x → EndRun t s c states table x state best → IsLastEnd (part_of t) s c (told_end best)
end_run_ends t s c states table x state best le lt h =
    end_of_all (part_of t) s c x best
    (λ y high r. let within = reach_within (part_of t) s c y le r in absurd (omega arith)) h.last

-- The match

pub end_found : (t : Tree) (s : List ℕ) (from start end : ℕ) → refers t ≡ false → repeats_in_order t ≡ true → from ≤ start →
    start ≤ length s → match_from t s start ≡ match_from t s from → Reaches (part_of t) s start end →
    ((later : ℕ) → end < later → Reaches (part_of t) s start later → ⊥) →
    (Some (start, end) ≡ option_map start_and_end (match_from t s from)) × SpansWithin from (length s) (start, end)
end_found t s from start end free order low le same there longest = (
  best_is_match t s start (Some (start, end)) free order le
      (record {
        begins = omega arith;
        there = there;
        before = let within = reach_within (part_of t) s start end le there in omega arith;
        sooner = λ p y high lt before r. absurd (omega arith);
        longer = λ y above before r. longest y above r;
      })
      ∙ ap (option_map start_and_end) same,
  (low, forth (part_of t) s start end there, reach_within (part_of t) s start end le there),
)

-- a start without a way is passed over, and so are those after it that can't have one
pub start_passed : (t : Tree) (s : List ℕ) (from start next : ℕ) → refers t ≡ false → repeats_in_order t ≡ true → start < length s →
    start + 1 ≤ next → next ≤ length s → match_from t s start ≡ match_from t s from →
    ((end : ℕ) → Reaches (part_of t) s start end → ⊥) →
    ((k : ℕ) → start + 1 ≤ k → k < next → longest_from t s k ≡ None) → match_from t s next ≡ match_from t s from
start_passed t s from start next free order lt low high same none passed =
    match_passed_to t s (start + 1) next low high passed
    ∙ match_passed_to t s start (start + 1) (omega arith) (omega arith)
    (λ k l before.
    let here : start ≡ k = omega arith in
    subst (λ z. longest_from t s z ≡ None) here
    (none_from t s start (λ m i. none m (ways_reach t free order s start m no_groups i))))
    ∙ same
