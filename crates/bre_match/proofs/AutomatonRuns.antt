-- How a scan by an automaton goes on, and what it tells where it ends.
use Rattle.std.proofs.Common.{◌≡◌, ℕ, zero, suc, ◌+◌, ◌*◌, ◌-◌, ◌<◌, ◌≤◌, ◌⊎◌, inl, inr, List, [], ◌∷◌, length, get_or, Option, Some, None, Bool, true, false, cond, eqb, leb, refl, ap, sym, ◌∙◌, subst, arith, slice_get}
use Rattle.std.proofs.lemmas.Bool.Decides.{nat_tests}
use Rattle.std.proofs.lemmas.List.{get_or_read}
use Rattle.std.specs.Prelude.{is_some}
use Rattle.bre_parse.specs.Tree.{Tree}
use Rattle.bre_parse.specs.Groups.{refers}
use Rattle.bre_parse.specs.WellFormed.{repeats_in_order}
use Rattle.bre_parse.specs.Match.{match_from}
use Rattle.bre_match.specs.declared.state.Starts.TheVariants as kind
use Rattle.bre_match.specs.Parts.{Part, Nothing, Never, One, AtStart, AtEnd, Both, Maybe, Star, part_of}
use Rattle.bre_match.specs.Columns.{peek, step}
use Rattle.bre_match.specs.Marks.{fill, past, marks_of}
use Rattle.bre_match.specs.Ends.{columns, out_of}
use Rattle.bre_match.specs.States.{any_start, as_state, none_marked, transition}
use Rattle.bre_match.specs.Automata.{symbol_byte, state_in, meaning_of, IsEntry, Serves}
use Rattle.bre_match.proofs.Automata.{out_is_match, none_out_no_match, none_before, passed_over}
use Rattle.bre_match.proofs.ColumnRuns.{unmarked_part}
use Rattle.bre_match.proofs.ColumnRows.{column_of_row}
use Rattle.bre_match.proofs.ColumnSearch.{no_marks}
use Rattle.bre_match.proofs.AutomatonTables.{meaning_is_known, entry_says, known_entry, known_entry_holds}

-- A part with marks as a state has them

fill_none : (t : Part) (ms : List (Option ℕ)) → none_marked ms ≡ true →
    (fill t ms ≡ fill t []) × (none_marked (past t ms) ≡ true) × (past t [] ≡ [])
fill_none Nothing ms e = (refl, e, refl)
fill_none Never ms e = (refl, e, refl)
fill_none (One n r m) [] e = (refl, e, refl)
fill_none (One n r m) (None ∷ ms) e = (refl, e, refl)
fill_none (One n r m) (Some w ∷ ms) e = absurd (cc)
fill_none AtStart ms e = (refl, e, refl)
fill_none AtEnd ms e = (refl, e, refl)
fill_none (Both a b) ms e =
    let i = fill_none a ms e in
    let j = fill_none b (past a ms) i.1 in (
      ap (λ p. Both p (fill b (past a ms))) i.0 ∙ ap (λ p. Both (fill a []) p) (j.0 ∙ ap (λ l. fill b l) (sym i.2)),
      j.1,
      ap (λ l. past b l) i.2 ∙ j.2,
    )
fill_none (Maybe a) ms e = let i = fill_none a ms e in (ap Maybe i.0, i.1, i.2)
fill_none (Star a) ms e = let i = fill_none a ms e in (ap Star i.0, i.1, i.2)

pub fill_state : (t : Part) (ms : List (Option ℕ)) → fill t (as_state ms) ≡ fill t ms
fill_state t ms = by_cases (none_marked ms) refl
  where
    by_cases : (b : Bool) → none_marked ms ≡ b → fill t (cond b [] ms) ≡ fill t ms
    by_cases true e = sym (fill_none t ms e).0
    by_cases false e = refl

-- The search

-- What a scan keeps: no match starts before the clean place; the marks at the place are those of the state, where the starts from the
-- clean place on enter; and no match of these ends before the place.
pub record Run (t : Tree) (s : List ℕ) (from : ℕ) (states : List (List (Option ℕ))) (table : List ℕ) (x clean state : ℕ) : Type 0 where
  pub serves : Serves kind.Every (part_of t) states table
  pub begun : 2 ≤ length states
  pub within : state < length states
  pub start : eqb x 0 ≡ eqb state 0
  pub low : from ≤ clean
  pub later : clean ≤ x
  pub high : x ≤ length s
  pub same : match_from t s clean ≡ match_from t s from
  pub column : fill (part_of t) (get_or states state []) ≡ columns (part_of t) s clean any_start (x - clean)
  pub none : (n : ℕ) → n < x - clean → out_of (part_of t) s clean any_start n ≡ None

no_states_marks : (states : List (List (Option ℕ))) (state : ℕ) → state < 2 → get_or states 0 [] ≡ [] → get_or states 1 [] ≡ [] →
    get_or states state [] ≡ []
no_states_marks states zero lt e f = e
no_states_marks states (suc zero) lt e f = f
no_states_marks states (suc (suc n)) lt e f = absurd (omega arith)

pub run_begins : (t : Tree) (s : List ℕ) (from clean : ℕ) (states : List (List (Option ℕ))) (table : List ℕ) (state : ℕ) →
    from ≤ clean → clean ≤ length s → match_from t s clean ≡ match_from t s from → 2 ≤ length states → state < 2 →
    eqb clean 0 ≡ eqb state 0 → Serves kind.Every (part_of t) states table → Run t s from states table clean clean state
run_begins t s from clean states table state low le same begun lt start h = record {
  serves = h;
  begun = begun;
  within = omega arith;
  start = start;
  low = low;
  later = omega arith;
  high = le;
  same = same;
  column =
      ap (fill (part_of t)) (no_states_marks states state lt h.first h.second)
      ∙ (no_marks (part_of t) (unmarked_part t)).0
      ∙ sym (ap (λ n. columns (part_of t) s clean any_start n) (let e : clean - clean ≡ 0 = omega arith in e));
  none = λ n lt. absurd (omega arith);
}

-- the transition at a place is what the column gives
pub none_there : (o : Option ℕ) → is_some o ≡ false → o ≡ None
none_there None e = refl
none_there (Some w) e = absurd (cc)

pub state_of_entry : (entry : ℕ) → entry < 256 → state_in entry ≡ entry
state_of_entry entry lt = omega arith

out_here : (part : Part) (s : List ℕ) (from : ℕ) (states : List (List (Option ℕ))) (x state : ℕ) → from ≤ x →
    fill part (get_or states state []) ≡ columns part s from any_start (x - from) →
    out_of part s from any_start (x - from) ≡ peek (fill part (get_or states state [])) s x (Some 0)
out_here part s from states x state low e =
    ap (λ z. peek (columns part s from any_start (x - from)) s z (Some 0)) (let f : from + (x - from) ≡ x = omega arith in f)
    ∙ ap (λ c. peek c s x (Some 0)) (sym e)

pub run_finds : (t : Tree) (s : List ℕ) (from : ℕ) (states old : List (List (Option ℕ))) (table : List ℕ) (x clean state entry : ℕ) →
    refers t ≡ false → repeats_in_order t ≡ true → Run t s from old table x clean state →
    meaning_of states entry ≡ Some (transition (part_of t) (get_or old state []) s x) → 256 ≤ entry →
    (from ≤ clean) × (clean ≤ length s) × (match_from t s clean ≡ match_from t s from) × (is_some (match_from t s from) ≡ true)
run_finds t s from states old table x clean state entry free order h tells is =
    let later = h.later in
    let high = h.high in
    let inside : clean ≤ length s = omega arith in (
      h.low,
      inside,
      h.same,
      ap is_some (sym h.same)
          ∙ out_is_match t s clean (x - clean) free order (omega arith)
          (ap is_some (out_here (part_of t) s clean old x state later h.column)
          ∙ sym (entry_says states entry _ _ tells).0
          ∙ (let e : leb 256 entry ≡ true = grind (arith, nat_tests) in e)),
    )

-- where an entry isn't that of a match's end, none ends at the place, and the entry's state has the marks of the next one
goes_on : (t : Tree) (s : List ℕ) (from : ℕ) (states old : List (List (Option ℕ))) (before : List ℕ) (x clean state entry : ℕ) →
    Run t s from old before x clean state → meaning_of states entry ≡ Some (transition (part_of t) (get_or old state []) s x) →
    entry < 256 →
    ((n : ℕ) → n < x + 1 - clean → out_of (part_of t) s clean any_start n ≡ None) ×
    (fill (part_of t) (get_or states entry []) ≡ columns (part_of t) s clean any_start (x + 1 - clean))
goes_on t s from states old before x clean state entry h tells on = (none, column)
  where
    later : clean ≤ x
    later = h.later

    both : (peek (fill (part_of t) (get_or old state [])) s x (Some 0) ≡ None) ×
        (get_or states entry [] ≡ as_state (marks_of (step (fill (part_of t) (get_or old state [])) s x (Some 0))))
    both =
        let says = entry_says states entry _ _ tells in (
          none_there (peek (fill (part_of t) (get_or old state [])) s x (Some 0))
              (sym says.0 ∙ (let e : leb 256 entry ≡ false = grind (arith, nat_tests) in e)),
          ap (λ i. get_or states i []) (sym (state_of_entry entry on)) ∙ says.1,
        )

    here_or_before : (n : ℕ) → n < x + 1 - clean → (n ≡ x - clean) ⊎ (n < x - clean)
    here_or_before n lt = grind arith

    none : (n : ℕ) → n < x + 1 - clean → out_of (part_of t) s clean any_start n ≡ None
    none n lt =
        elim (here_or_before n lt) [
          | inl here ↦ ap (λ z. out_of (part_of t) s clean any_start z) here ∙ out_here (part_of t) s clean old x state later h.column ∙ both.0
          | inr earlier ↦ h.none n earlier
        ]

    row : marks_of (step (fill (part_of t) (get_or old state [])) s x (Some 0)) ≡
        marks_of (columns (part_of t) s clean any_start (suc (x - clean)))
    row =
        ap (λ c. marks_of (step c s x (Some 0))) h.column
        ∙ ap (λ z. marks_of (step (columns (part_of t) s clean any_start (x - clean)) s z (Some 0)))
        (let e : x ≡ clean + (x - clean) = omega arith in e)

    column : fill (part_of t) (get_or states entry []) ≡ columns (part_of t) s clean any_start (x + 1 - clean)
    column =
        ap (fill (part_of t)) both.1
        ∙ fill_state (part_of t) _
        ∙ column_of_row (part_of t) s clean any_start (suc (x - clean)) _ row
        ∙ ap (λ n. columns (part_of t) s clean any_start n) (let e : suc (x - clean) ≡ x + 1 - clean = omega arith in e)

pub run_goes_on : (t : Tree) (s : List ℕ) (from : ℕ) (states old : List (List (Option ℕ))) (table before : List ℕ)
    (x clean state entry next new : ℕ) → refers t ≡ false → repeats_in_order t ≡ true → x < length s →
    Run t s from old before x clean state → 2 ≤ length states → Serves kind.Every (part_of t) states table → IsEntry states entry →
    meaning_of states entry ≡ Some (transition (part_of t) (get_or old state []) s x) → entry < 256 →
    x + 1 ≤ next → next ≤ length s → (eqb entry 1 ≡ false → next ≡ x + 1) → match_from t s next ≡ match_from t s (x + 1) →
    new ≡ cond (eqb entry 1) next clean → Run t s from states table next new entry
run_goes_on t s from states old table before x clean state entry next new free order lt h begun serves good tells on after within stays
    same e =
    by_cases (eqb entry 1) refl e
  where
    low : from ≤ clean
    low = h.low

    later : clean ≤ x
    later = h.later

    number : (0 < entry) × (entry < length states)
    number =
        let known = meaning_is_known states entry _ tells in
        let same = state_of_entry entry on in
        subst (λ i. (0 < i) × (i < length states)) same (good (grind (arith, nat_tests)))

    not_first : eqb next 0 ≡ eqb entry 0
    not_first =
        let a = number.0 in
        let f : eqb next 0 ≡ false = grind (arith, nat_tests) in
        let g : eqb entry 0 ≡ false = grind (arith, nat_tests) in
        f ∙ sym g

    both : ((n : ℕ) → n < x + 1 - clean → out_of (part_of t) s clean any_start n ≡ None) ×
        (fill (part_of t) (get_or states entry []) ≡ columns (part_of t) s clean any_start (x + 1 - clean))
    both = goes_on t s from states old before x clean state entry h tells on

    no_mark : entry ≡ 1 → columns (part_of t) s clean any_start (x + 1 - clean) ≡ part_of t
    no_mark is =
        sym both.1
        ∙ ap (fill (part_of t)) (ap (λ i. get_or states i []) is ∙ serves.second)
        ∙ (no_marks (part_of t) (unmarked_part t)).0

    passed : entry ≡ 1 → match_from t s (x + 1) ≡ match_from t s clean
    passed is =
        passed_over t s clean (x + 1) free order (omega arith) (omega arith)
        (λ p y l high r.
        none_before (part_of t) s clean (x + 1 - clean) (unmarked_part t) (no_mark is) both.0 p y l (omega arith) r)

    by_cases : (b : Bool) → eqb entry 1 ≡ b → new ≡ cond b next clean → Run t s from states table next new entry
    by_cases true is f =
        let one : entry ≡ 1 = grind (arith, nat_tests) in
        subst (λ z. Run t s from states table next z entry) (sym f)
        (run_begins t s from next states table entry (omega arith) within (same ∙ passed one ∙ h.same) begun (omega arith) not_first serves)
    by_cases false is f =
        subst (λ z. Run t s from states table next z entry) (sym f)
        (subst (λ z. Run t s from states table z clean entry) (sym (stays is))
        (record {
          serves = serves;
          begun = begun;
          within = number.1;
          start = ap (λ z. eqb z 0) (sym (stays is)) ∙ not_first;
          low = low;
          later = omega arith;
          high = omega arith;
          same = h.same;
          column = both.1;
          none = both.0;
        }))

-- a byte with a known entry that isn't that of a match's end
pub run_passes : (t : Tree) (s : List ℕ) (from : ℕ) (states : List (List (Option ℕ))) (table : List ℕ)
    (x clean state symbol slot entry next new : ℕ) → refers t ≡ false → repeats_in_order t ≡ true → x < length s →
    Run t s from states table x clean state → symbol ≤ 256 → symbol_byte symbol ≡ slice_get s x → slot ≡ 512 * state + symbol →
    entry ≡ get_or table slot entry → entry < 256 → next ≡ x + 1 → new ≡ cond (eqb entry 1) next clean →
    Run t s from states table next new entry
run_passes t s from states table x clean state symbol slot entry next new free order lt h low at is e on there f =
    run_goes_on t s from states states table table x clean state entry next new free order lt h h.begun h.serves
    (known_entry kind.Every (part_of t) states table slot entry h.serves read)
    (known_entry_holds kind.Every (part_of t) s states table x state symbol slot entry (omega arith) h.serves h.within h.start low at is
    read (λ g. omega arith))
    on (omega arith) (omega arith) (λ g. there) (ap (λ z. match_from t s z) there) f
  where
    within : slot < length table
    within =
        let serves = h.serves in
        let room = serves.room in
        let inside = h.within in
        omega arith

    read : entry ≡ get_or table slot 65535
    read = get_or_read table slot entry within e 65535

pub run_ends : (t : Tree) (s : List ℕ) (from : ℕ) (states old : List (List (Option ℕ))) (table : List ℕ) (x clean state entry : ℕ) →
    refers t ≡ false → repeats_in_order t ≡ true → length s ≤ x → Run t s from old table x clean state →
    meaning_of states entry ≡ Some (transition (part_of t) (get_or old state []) s x) → entry < 256 →
    match_from t s from ≡ None
run_ends t s from states old table x clean state entry free order le h tells on =
    sym h.same ∙ none_out_no_match t s clean free order (let a = h.later in let b = h.high in omega arith) none
  where
    none : (n : ℕ) → clean + n ≤ length s → out_of (part_of t) s clean any_start n ≡ None
    none n high =
        (goes_on t s from states old table x clean state entry h tells on).0 n
        (let b = h.high in omega arith)
