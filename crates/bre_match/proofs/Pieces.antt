-- The bytes of a piece, put one after another from its end; and a run of columns over them.
use Rattle.std.proofs.Common.{◌≡◌, ℕ, zero, suc, ◌+◌, ◌-◌, ◌<◌, ◌≤◌, ◌⊎◌, inl, inr, List, [], ◌∷◌, ◌++◌, length, get_or, Option, Some, None, Bool, true, eqb, refl, ap, sym, ◌∙◌, subst, arith, length-append}
use Rattle.std.proofs.lemmas.Bool.Decides.{nat_tests}
use Rattle.std.specs.Prelude.{slice_get}
use Rattle.std.proofs.Math.Nat.{eq-or-lt_of_le}
use Rattle.bre_parse.specs.Tree.{Tree}
use Rattle.bre_match.specs.Parts.{Part, part_of}
use Rattle.bre_match.specs.Columns.{peek, step}
use Rattle.bre_match.specs.Marks.{fill, marks_of}
use Rattle.bre_match.specs.Backwards.{Backwards, IsPiece}
use Rattle.bre_match.specs.Ends.{LastEnds, leads_on, entered, columns, out_of}
use Rattle.bre_match.proofs.EndTables.{last_ends}
use Rattle.bre_match.proofs.ColumnRuns.{unmarked_part}
use Rattle.bre_match.proofs.ColumnRows.{column_of_row}
use Rattle.bre_match.proofs.ColumnSearch.{no_marks}

-- the bytes from a place on are there
pub record Copied (text : List ℕ) (low high at : ℕ) (piece : List ℕ) : Type 0 where
  pub above : low ≤ at
  pub few : at ≤ high
  pub size : length piece ≡ high - at
  pub bytes : (p : ℕ) → at ≤ p → p < high → slice_get piece (high - (p + 1)) ≡ slice_get text p

pub none_copied : (text : List ℕ) (low high : ℕ) (piece : List ℕ) → low ≤ high → piece ≡ [] → Copied text low high high piece
none_copied text low high piece le e = record {
  above = le;
  few = omega arith;
  size = ap length e ∙ omega arith;
  bytes = λ p lo hi. absurd (omega arith);
}

get_before : (xs : List ℕ) (x i : ℕ) → i < length xs → slice_get (xs ++ x ∷ []) i ≡ slice_get xs i
get_before [] x i lt = absurd (omega arith)
get_before (y ∷ xs) x zero lt = refl
get_before (y ∷ xs) x (suc i) lt = get_before xs x i (omega arith)

get_last : (xs : List ℕ) (x i : ℕ) → i ≡ length xs → slice_get (xs ++ x ∷ []) i ≡ Some x
get_last [] x zero e = refl
get_last [] x (suc i) e = absurd (omega arith)
get_last (y ∷ xs) x zero e = absurd (omega arith)
get_last (y ∷ xs) x (suc i) e = get_last xs x i (omega arith)

pub copied_next : (text : List ℕ) (low high at next : ℕ) (piece new : List ℕ) (byte : ℕ) → low < at → high ≤ length text → next ≡ at - 1 → Copied text low high at piece → slice_get text next ≡ Some byte → new ≡ piece ++ byte ∷ [] → Copied text low high next new
copied_next text low high at next piece new byte lt within is h there made =
    let few = h.few in
    let n = h.size in
    record {
      above = omega arith;
      few = omega arith;
      size = ap length made ∙ length-append piece (byte ∷ []) ∙ omega arith;
      bytes = λ p lo hi. ap (λ z. slice_get z (high - (p + 1))) made ∙ by_cases p lo hi (eq-or-lt_of_le {n = next} {m = p} lo);
    }
  where
    by_cases : (p : ℕ) → next ≤ p → p < high → (next ≡ p) ⊎ (next < p) → slice_get (piece ++ byte ∷ []) (high - (p + 1)) ≡ slice_get text p
    by_cases p lo hi (inl same) =
        let few = h.few in
        let n = h.size in
        get_last piece byte (high - (p + 1)) (omega arith) ∙ sym there ∙ ap (slice_get text) same
    by_cases p lo hi (inr later) =
        let few = h.few in
        let n = h.size in
        get_before piece byte (high - (p + 1)) (omega arith) ∙ h.bytes p (omega arith) hi

pub piece_made : (text piece : List ℕ) (low high : ℕ) (starts ends : Bool) → low ≤ high → high ≤ length text → length piece ≡ high - low → ((p : ℕ) → low ≤ p → p < high → slice_get piece (high - (p + 1)) ≡ slice_get text p) → starts ≡ eqb low 0 → ends ≡ eqb high (length text) → IsPiece text piece low high starts ends
piece_made text piece low high starts ends order within size bytes first last = record {
  order = order;
  within = within;
  size = size;
  bytes = bytes;
  at_start = λ h. let e : eqb low 0 ≡ true = sym first ∙ h in grind (arith, nat_tests, e);
  from_start = λ h. first ∙ (let e : low ≡ 0 = h in grind (arith, nat_tests, e));
  at_end = λ h. let e : eqb high (length text) ≡ true = sym last ∙ h in grind (arith, nat_tests, e);
  to_end = λ h. last ∙ (let e : high ≡ length text = h in grind (arith, nat_tests, e));
}

-- A run of columns, with what came out at each place so far
pub record Ran (t : Tree) (s : List ℕ) (entry : ℕ → Option ℕ) (place : ℕ) (marks all : List (Option ℕ)) : Type 0 where
  pub few : place ≤ length s + 1
  pub size : length all ≡ place
  pub column : fill (part_of t) marks ≡ columns (part_of t) s 0 entry place
  pub told : (i : ℕ) → i < place → get_or all i None ≡ out_of (part_of t) s 0 entry i

pub run_begun : (t : Tree) (s : List ℕ) (entry : ℕ → Option ℕ) (marks all : List (Option ℕ)) → marks ≡ [] → all ≡ [] → Ran t s entry 0 marks all
run_begun t s entry marks all e f = record {
  few = omega arith;
  size = ap length f;
  column = ap (fill (part_of t)) e ∙ (no_marks (part_of t) (unmarked_part t)).0;
  told = λ i lt. absurd (omega arith);
}

or_before : (xs : List (Option ℕ)) (x : Option ℕ) (i : ℕ) → i < length xs → get_or (xs ++ x ∷ []) i None ≡ get_or xs i None
or_before [] x i lt = absurd (omega arith)
or_before (y ∷ xs) x zero lt = refl
or_before (y ∷ xs) x (suc i) lt = or_before xs x i (omega arith)

or_last : (xs : List (Option ℕ)) (x : Option ℕ) (i : ℕ) → i ≡ length xs → get_or (xs ++ x ∷ []) i None ≡ x
or_last [] x zero e = refl
or_last [] x (suc i) e = absurd (omega arith)
or_last (y ∷ xs) x zero e = absurd (omega arith)
or_last (y ∷ xs) x (suc i) e = or_last xs x i (omega arith)

pub run_next : (t : Tree) (s : List ℕ) (entry : ℕ → Option ℕ) (place : ℕ) (weight out : Option ℕ) (marks next all new : List (Option ℕ)) → place ≤ length s → Ran t s entry place marks all → weight ≡ entry place → out ≡ peek (fill (part_of t) marks) s place weight → next ≡ marks_of (step (fill (part_of t) marks) s place weight) → new ≡ all ++ out ∷ [] → Ran t s entry (place + 1) next new
run_next t s entry place weight out marks next all new le h w o m made =
    let n = h.size in
    record {
      few = omega arith;
      size = ap length made ∙ length-append all (out ∷ []) ∙ omega arith;
      column =
          column_of_row (part_of t) s 0 entry (suc place) next row
          ∙ ap (λ z. columns (part_of t) s 0 entry z) (let i : suc place ≡ place + 1 = omega arith in i);
      told = λ i lt. ap (λ z. get_or z i None) made ∙ by_cases i (eq-or-lt_of_le {n = i} {m = place} (omega arith));
    }
  where
    zero_more : 0 + place ≡ place
    zero_more = omega arith

    row : next ≡ marks_of (columns (part_of t) s 0 entry (suc place))
    row =
        m
        ∙ ap (λ c. marks_of (step c s place weight)) h.column
        ∙ ap (λ z. marks_of (step (columns (part_of t) s 0 entry place) s place z)) w
        ∙ ap (λ z. marks_of (step (columns (part_of t) s 0 entry place) s z (entry z))) (sym zero_more)

    by_cases : (i : ℕ) → (i ≡ place) ⊎ (i < place) → get_or (all ++ out ∷ []) i None ≡ out_of (part_of t) s 0 entry i
    by_cases i (inl same) =
        let n = h.size in
        or_last all out i (omega arith)
        ∙ o
        ∙ ap (λ c. peek c s place weight) h.column
        ∙ ap (λ z. peek (columns (part_of t) s 0 entry place) s place z) w
        ∙ ap (λ z. peek (columns (part_of t) s 0 entry place) s z (entry z)) (sym zero_more)
        ∙ ap (λ z. out_of (part_of t) s 0 entry z) (sym same)
    by_cases i (inr before) =
        let n = h.size in
        or_before all out i (omega arith) ∙ h.told i before

-- The table of a part by a run over a piece
pub ends_made : (t : Part) (back : Tree) (s items w : List ℕ) (b e : ℕ) (x y stops : Bool) (next table : List (Option ℕ)) → Backwards x y t (part_of back) → w ≡ items → b ≤ e → e ≤ length s → length items ≡ e - b → ((p : ℕ) → b ≤ p → p < e → slice_get items (e - (p + 1)) ≡ slice_get s p) → x ≡ eqb b 0 → y ≡ eqb e (length s) → ((i : ℕ) → i ≤ length w → get_or table i None ≡ out_of (part_of back) w 0 (entered (leads_on stops next)) i) → LastEnds t (λ n. leads_on stops next (e - n) ≡ true) s b e table
ends_made t back s items w b e x y stops next table turn same order within size bytes first last told =
    last_ends t (part_of back) s w b e x y (leads_on stops next) table turn
    (subst (λ z. IsPiece s z b e x y) (sym same) (piece_made s items b e x y order within size bytes first last)) (unmarked_part back) told
