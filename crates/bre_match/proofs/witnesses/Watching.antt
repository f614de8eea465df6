-- What the watches of several patterns tell of a text: a watch, whether a match of its pattern has ended.
use Rattle.std.proofs.Common.{◌≡◌, ℕ, zero, suc, ◌+◌, ◌<◌, ◌⊎◌, inl, inr, List, [], ◌∷◌, map, length, Option, Some, None, Bool, true, false, not, ◌&&◌, ◌||◌, cond, refl, ap, sym, ◌∙◌, arith}
use Rattle.std.proofs.lemmas.List.Elements.{All-head, All-tail}
use Rattle.std.specs.Prelude.{is_some}
use Rattle.std.specs.List.{All}
use Rattle.bre_parse.specs.Tree.{Tree}
use Rattle.bre_parse.specs.Bre.{bre_tree}
use Rattle.bre_parse.specs.Groups.{refers}
use Rattle.bre_parse.specs.WellFormed.{repeats_in_order}
use Rattle.bre_parse.specs.Match.{match_from}
use Rattle.bre_match.specs.declared.witness.Answer.{Answer}
use Rattle.bre_match.specs.Parts.{Part, part_of}
use Rattle.bre_match.specs.Columns.{peek, step}
use Rattle.bre_match.specs.Marks.{fill, marks_of}
use Rattle.bre_match.specs.Ends.{columns, out_of}
use Rattle.bre_match.specs.States.{any_start, as_state}
use Rattle.bre_match.specs.Watches.{Watch, IsPlain, watch_after, next_watch, first_watch, other_watches, next_watches, first_watches, are_as_said, is_ruled_out}
use Rattle.bre_match.specs.Witness.{IsAnswered}
use Rattle.bre_match.proofs.Automata.{Alike, out_is_match, none_out_no_match}
use Rattle.bre_match.proofs.AutomatonTables.{same_transition}
use Rattle.bre_match.proofs.AutomatonRuns.{fill_state}
use Rattle.bre_match.proofs.ColumnRuns.{unmarked, unmarked_part}
use Rattle.bre_match.proofs.ColumnRows.{column_of_row}
use Rattle.bre_match.proofs.ColumnSearch.{no_marks}

-- ONE PATTERN

-- what is known of it before a place
abbrev pub watch : Part → List ℕ → (place : ℕ) → Watch
watch part s zero = Some []
watch part s (suc n) = next_watch part (watch part s n) s n

-- A match ended at an earlier place; or at none, and the row is that of the column.
abbrev pub Told : Part → List ℕ → (place : ℕ) → Watch → Type 0
Told part s n None = (m : ℕ) × (m < n) × (is_some (out_of part s 0 any_start m) ≡ true)
Told part s n (Some row) =
    (fill part row ≡ columns part s 0 any_start n) × ((m : ℕ) → m < n → out_of part s 0 any_start m ≡ None)

here_or_before : (m n : ℕ) → m < suc n → (m ≡ n) ⊎ (m < n)
here_or_before m n lt = grind arith

told_next : (part : Part) (s : List ℕ) (n : ℕ) (w : Watch) → Told part s n w → Told part s (suc n) (next_watch part w s n)
told_next part s n None h = let lt = h.1 in (h.0, omega arith, h.2)
told_next part s n (Some row) h = by_cases (peek (fill part row) s n (Some 0)) refl
  where
    out_is : out_of part s 0 any_start n ≡ peek (fill part row) s n (Some 0)
    out_is =
        ap (λ z. peek (columns part s 0 any_start n) s z (Some 0)) (let e : 0 + n ≡ n = omega arith in e)
        ∙ ap (λ c. peek c s n (Some 0)) (sym h.0)

    column : fill part (as_state (marks_of (step (fill part row) s n (Some 0)))) ≡ columns part s 0 any_start (suc n)
    column =
        fill_state part (marks_of (step (fill part row) s n (Some 0)))
        ∙ column_of_row part s 0 any_start (suc n) (marks_of (step (fill part row) s n (Some 0)))
        (ap (λ c. marks_of (step c s n (Some 0))) h.0
        ∙ ap (λ z. marks_of (step (columns part s 0 any_start n) s z (Some 0))) (let e : n ≡ 0 + n = omega arith in e))

    by_cases : (o : Option ℕ) → peek (fill part row) s n (Some 0) ≡ o →
        Told part s (suc n) (watch_after (is_some o, as_state (marks_of (step (fill part row) s n (Some 0)))))
    by_cases None e = (
      column,
      λ m lt. elim (here_or_before m n lt) [
        | inl is ↦ ap (λ z. out_of part s 0 any_start z) is ∙ out_is ∙ e
        | inr before ↦ h.1 m before
      ],
    )
    by_cases (Some v) e = (n, omega arith, ap is_some (out_is ∙ e))

pub told : (part : Part) (s : List ℕ) (n : ℕ) → unmarked part ≡ true → Told part s n (watch part s n)
told part s zero u = ((no_marks part u).0, λ m lt. absurd (omega arith))
told part s (suc n) u = told_next part s n (watch part s n) (told part s n u)

-- after the text's end it tells whether there is a match
pub watch_tells : (t : Tree) (s : List ℕ) → refers t ≡ false → repeats_in_order t ≡ true →
    is_some (watch (part_of t) s (suc (length s))) ≡ not (is_some (match_from t s 0))
watch_tells t s free order = by_cases (watch (part_of t) s (suc (length s))) (told (part_of t) s (suc (length s)) (unmarked_part t))
  where
    by_cases : (w : Watch) → Told (part_of t) s (suc (length s)) w → is_some w ≡ not (is_some (match_from t s 0))
    by_cases None h =
        let lt = h.1 in
        ap not (sym (out_is_match t s 0 h.0 free order (omega arith) h.2))
    by_cases (Some row) h =
        ap (λ o. not (is_some o)) (sym (none_out_no_match t s 0 free order (omega arith) (λ n le. h.1 n (omega arith))))

-- SEVERAL PATTERNS

abbrev pub watches : List Answer → List ℕ → (place : ℕ) → List Watch
watches answers s n = map (λ answer. watch (part_of (bre_tree answer.pattern.now)) s n) answers

pub next_is : (answers : List Answer) (s : List ℕ) (n : ℕ) → next_watches answers (watches answers s n) s n ≡ watches answers s (suc n)
next_is [] s n = refl
next_is (a ∷ answers) s n = ap (λ l. watch (part_of (bre_tree a.pattern.now)) s (suc n) ∷ l) (next_is answers s n)

pub first_is : (answers : List Answer) (s : List ℕ) → first_watches answers ≡ watches answers s 0
first_is [] s = refl
first_is (a ∷ answers) s = ap (λ l. Some [] ∷ l) (first_is answers s)

same_watch : (part : Part) (w : Watch) (s : List ℕ) (x : ℕ) (t : List ℕ) (y : ℕ) → Alike s x t y → next_watch part w s x ≡ next_watch part w t y
same_watch part None s x t y h = refl
same_watch part (Some row) s x t y h = ap watch_after (same_transition part row s x t y h)

pub same_next : (answers : List Answer) (ws : List Watch) (s : List ℕ) (x : ℕ) (t : List ℕ) (y : ℕ) → Alike s x t y →
    next_watches answers ws s x ≡ next_watches answers ws t y
same_next [] ws s x t y h = refl
same_next (a ∷ answers) ws s x t y h =
    ap (λ w. w ∷ next_watches answers (other_watches ws) s x) (same_watch (part_of (bre_tree a.pattern.now)) (first_watch ws) s x t y h)
    ∙ ap (λ l. next_watch (part_of (bre_tree a.pattern.now)) (first_watch ws) t y ∷ l) (same_next answers (other_watches ws) s x t y h)

either : (p q : Bool) → p || q ≡ true → (p ≡ true) ⊎ (q ≡ true)
either true q e = inl refl
either false q e = inr e

or_right : (p q : Bool) → q ≡ true → p || q ≡ true
or_right true q e = refl
or_right false q e = e

or_left : (p q : Bool) → p ≡ true → p || q ≡ true
or_left true q e = refl
or_left false q e = absurd (cc)

stays_out : (matches : Bool) (part : Part) (w : Watch) (s : List ℕ) (n : ℕ) → not matches && not (is_some w) ≡ true →
    not matches && not (is_some (next_watch part w s n)) ≡ true
stays_out matches part None s n e = e
stays_out true part (Some row) s n e = absurd (cc)
stays_out false part (Some row) s n e = absurd (cc)

-- what is ruled out stays so
pub ruled_on : (answers : List Answer) (ws : List Watch) (s : List ℕ) (n : ℕ) → is_ruled_out answers ws ≡ true →
    is_ruled_out answers (next_watches answers ws s n) ≡ true
ruled_on [] ws s n e = absurd (cc)
ruled_on (a ∷ answers) ws s n e =
    elim (either (not a.matches && not (is_some (first_watch ws))) (is_ruled_out answers (other_watches ws)) e) [
      | inl here ↦
          or_left (not a.matches && not (is_some (next_watch (part_of (bre_tree a.pattern.now)) (first_watch ws) s n)))
          (is_ruled_out answers (next_watches answers (other_watches ws) s n))
          (stays_out a.matches (part_of (bre_tree a.pattern.now)) (first_watch ws) s n here)
      | inr later ↦
          or_right (not a.matches && not (is_some (next_watch (part_of (bre_tree a.pattern.now)) (first_watch ws) s n)))
          (is_ruled_out answers (next_watches answers (other_watches ws) s n))
          (ruled_on answers (other_watches ws) s n later)
    ]

out_fails : (matches some rest : Bool) → not matches && not some ≡ true → cond matches (not some) some && rest ≡ false
out_fails true some rest e = absurd (cc)
out_fails false true rest e = absurd (cc)
out_fails false false rest e = refl

and_fails : (p q : Bool) → q ≡ false → p && q ≡ false
and_fails true q e = e
and_fails false q e = refl

-- and isn't as said
pub ruled_fails : (answers : List Answer) (ws : List Watch) → is_ruled_out answers ws ≡ true → are_as_said answers ws ≡ false
ruled_fails [] ws e = absurd (cc)
ruled_fails (a ∷ answers) ws e =
    elim (either (not a.matches && not (is_some (first_watch ws))) (is_ruled_out answers (other_watches ws)) e) [
      | inl here ↦ out_fails a.matches (is_some (first_watch ws)) (are_as_said answers (other_watches ws)) here
      | inr later ↦
          and_fails (cond a.matches (not (is_some (first_watch ws))) (is_some (first_watch ws)))
          (are_as_said answers (other_watches ws)) (ruled_fails answers (other_watches ws) later)
    ]

said_here : (matches some found : Bool) → some ≡ not found → found ≡ matches → cond matches (not some) some ≡ true
said_here true true true e f = absurd (cc)
said_here true false true e f = refl
said_here true true false e f = absurd (cc)
said_here true false false e f = absurd (cc)
said_here false true true e f = absurd (cc)
said_here false false true e f = absurd (cc)
said_here false true false e f = refl
said_here false false false e f = absurd (cc)

both : (p q : Bool) → p ≡ true → q ≡ true → p && q ≡ true
both true q e f = f
both false q e f = absurd (cc)

-- a text that answers as is said comes to watches that are as said
pub as_said : (answers : List Answer) (s : List ℕ) → All IsPlain answers → All (IsAnswered s) answers →
    are_as_said answers (watches answers s (suc (length s))) ≡ true
as_said [] s plain h = refl
as_said (a ∷ answers) s plain h =
    let p = All-head IsPlain a answers plain in
    both (cond a.matches (not (is_some (watch (part_of (bre_tree a.pattern.now)) s (suc (length s))))) (is_some (watch (part_of (bre_tree a.pattern.now)) s (suc (length s)))))
    (are_as_said answers (watches answers s (suc (length s))))
    (said_here a.matches (is_some (watch (part_of (bre_tree a.pattern.now)) s (suc (length s)))) (is_some (match_from (bre_tree a.pattern.now) s 0))
    (watch_tells (bre_tree a.pattern.now) s p.0 p.1) (All-head (IsAnswered s) a answers h))
    (as_said answers s (All-tail IsPlain a answers plain) (All-tail (IsAnswered s) a answers h))
