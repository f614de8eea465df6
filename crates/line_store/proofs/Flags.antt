-- Lines exchanged and flagged, whose letters are told from places, and how far none has the flag.
use Rattle.std.proofs.Common.{◌≡◌, ℕ, zero, suc, ◌+◌, ◌-◌, ◌<◌, ◌≤◌, List, [], ◌∷◌, Bool, true, false, length, get_or, set, insert, remove, nat_lt, cond, Option, Some, None, refl, ap, ◌∙◌, sym, subst, arith, ⊎_elim}
use Rattle.std.specs.List.{position_or_len}
use Rattle.std.proofs.lemmas.Bool.{cases_lt, cond-true, cond-false, lt-ltb, le-ltb}
use Rattle.std.proofs.lemmas.List.{get_or_past, get_or_default}
use Rattle.std.proofs.lemmas.List.Sums.{position_or_len_is, sum_by-cons, get_or-le-sum_by}
use Rattle.std.proofs.lemmas.List.Edits.{length-remove}
use Rattle.ed_base.specs.Buffer.{Line, plain_line, with_flag, flagged_at, flagged_place, SharesNoLetter}
use Rattle.line_store.specs.Marks.{lettered, letters_at, AllBelow}
use Rattle.line_store.specs.Shifts.{with_line, without_line}
use Rattle.line_store.specs.Flagged.{FirstFlagged}
use Rattle.line_store.specs.Kept.{Unflagged, flag_count}
use Rattle.line_store.proofs.Lettered.{line_with, length-lettered, get_or-lettered, lettered-insert, lettered-remove, HaveNoPlace, without_places, with_line-below, without_line-below}

-- a line exchanged is a line that went out and one that came in
pub insert-removed : {X : Type 0} (xs : List X) (i : ℕ) (x : X) → i < length xs → insert (remove xs i) i x ≡ set xs i x
insert-removed [] i x h = absurd (omega arith)
insert-removed (y ∷ xs) zero x h = refl
insert-removed (y ∷ xs) (suc i) x h = ap (λ t. y ∷ t) (insert-removed xs i x (omega arith))

-- another line in place of one
pub lettered-item : (marks : List (Option ℕ)) (place i j : ℕ) (lines : List Line) (new : Line) → place + i ≡ j →
    lettered marks place (set lines i new) ≡ set (lettered marks place lines) i (line_with marks j new)
lettered-item marks place i j [] new e = refl
lettered-item marks place zero j (line ∷ lines) new e =
    ap (λ n. line_with marks n new ∷ lettered marks (suc place) lines) (let f : place ≡ j = omega arith in f)
lettered-item marks place (suc i) j (line ∷ lines) new e =
    ap (λ t. line_with marks place line ∷ t) (lettered-item marks (suc place) i j lines new (omega arith))

-- a line is flagged, whatever its letters
pub lettered-flagged : (marks : List (Option ℕ)) (i : ℕ) (flag : Bool) (lines : List Line) → i < length lines →
    lettered marks 0 (flagged_at i flag lines) ≡ flagged_at i flag (lettered marks 0 lines)
lettered-flagged marks i flag lines h =
    lettered-item marks 0 i i lines (with_flag flag (get_or lines i (plain_line []))) (omega arith)
    ∙ ap (λ t. set (lettered marks 0 lines) i (with_flag flag t)) (sym (get_or-lettered marks 0 i i lines (plain_line []) h (omega arith)))

-- the letters of a line that comes in place of another have no place once that went out
pub exchanged-places : (marks : List (Option ℕ)) (i : ℕ) (lines : List Line) (line : Line) → i < length lines → AllBelow (length lines) marks →
    SharesNoLetter line (remove (lettered marks 0 lines) i) → HaveNoPlace line.letters (without_line i marks)
exchanged-places marks i lines line h below shares =
    without_places (without_line i marks) (remove lines i) line
    (without_line-below (length lines) (length (remove lines i)) i marks h (length-remove lines i h) below)
    (subst (SharesNoLetter line) (sym (lettered-remove marks i lines h)) shares)

-- a line was exchanged
pub lettered-exchange : (marks : List (Option ℕ)) (i : ℕ) (lines : List Line) (new : Line) (letters : List Bool) → i < length lines → length letters ≡ 26 →
    HaveNoPlace letters (without_line i marks) →
    lettered (with_line i letters (without_line i marks)) 0 (set lines i new) ≡ set (lettered marks 0 lines) i (record new { letters = letters })
lettered-exchange marks i lines new letters h n none =
    let after = with_line i letters (without_line i marks) in
    let within : i ≤ length (remove lines i) = omega (arith, length-remove lines i h) in
    let inside : i < length (lettered marks 0 lines) = omega (arith, length-lettered marks 0 lines) in
    ap (lettered after 0) (sym (insert-removed lines i new h))
    ∙ lettered-insert (without_line i marks) i (remove lines i) new letters within n none
    ∙ ap (λ t. insert t i (record new { letters = letters })) (lettered-remove marks i lines h)
    ∙ insert-removed (lettered marks 0 lines) i (record new { letters = letters }) inside

pub exchanged-below : (marks : List (Option ℕ)) (i : ℕ) (letters : List Bool) (lines : List Line) (new : Line) → i < length lines → AllBelow (length lines) marks →
    AllBelow (length lines) (with_line i letters (without_line i marks))
exchanged-below marks i letters lines new h below =
    let fewer = length-remove lines i h in
    with_line-below (length (remove lines i)) (length lines) i letters (without_line i marks) (omega (arith, fewer)) (sym fewer)
    (without_line-below (length lines) (length (remove lines i)) i marks h fewer below)

-- letters change no flag
flag-lettered : (marks : List (Option ℕ)) (lines : List Line) (k : ℕ) → (get_or (lettered marks 0 lines) k (plain_line [])).flag ≡ (get_or lines k (plain_line [])).flag
flag-lettered marks lines k = ⊎_elim
    (λ l. ap (λ line. line.flag) (get_or-lettered marks 0 k k lines (plain_line []) l (omega arith)))
    (λ past. ap (λ line. line.flag) (get_or_past (lettered marks 0 lines) k (plain_line []) (omega (arith, length-lettered marks 0 lines)) ∙ sym (get_or_past lines k (plain_line []) past)))
    (cases_lt k (length lines))

-- whether a line has it, told from the line
pub flag-at : (lines : List Line) (i : ℕ) (line : Line) (flag : Bool) → i < length lines → line ≡ get_or lines i line → flag ≡ line.flag →
    (get_or lines i (plain_line [])).flag ≡ flag
flag-at lines i line flag h e f = ap (λ line. line.flag) (get_or_default lines i (plain_line []) line h ∙ sym e) ∙ sym f

-- the first flagged line, where the search found one
pub flagged-found : (marks : List (Option ℕ)) (lines : List Line) (place : ℕ) → place < length lines → Unflagged place lines → (get_or lines place (plain_line [])).flag ≡ true →
    flagged_place (lettered marks 0 lines) ≡ Some place
flagged-found marks lines place h none is =
    let long = length-lettered marks 0 lines in
    let n = position_or_len (λ line. line.flag) (lettered marks 0 lines) in
    let at : n ≡ place = position_or_len_is (λ line. line.flag) (lettered marks 0 lines) place (plain_line []) (omega arith)
    (λ k l. flag-lettered marks lines k ∙ none k l) (λ l. flag-lettered marks lines place ∙ is) in
    cond-true (nat_lt n (length (lettered marks 0 lines))) (Some n) None (lt-ltb n (length (lettered marks 0 lines)) (omega arith)) ∙ ap (λ k. Some k) at

-- and where it found none
pub flagged-none : (marks : List (Option ℕ)) (lines : List Line) (place : ℕ) → length lines ≤ place → Unflagged place lines → flagged_place (lettered marks 0 lines) ≡ None
flagged-none marks lines place h none =
    let long = length-lettered marks 0 lines in
    let all = lettered marks 0 lines in
    let n = position_or_len (λ line. line.flag) all in
    let at : n ≡ length all = position_or_len_is (λ line. line.flag) all (length all) (plain_line []) (omega arith)
    (λ k l. flag-lettered marks lines k ∙ none k (omega arith)) (λ l. absurd (omega arith)) in
    cond-false (nat_lt n (length all)) (Some n) None (le-ltb n (length all) (omega arith))

-- how many lines have it, whatever their letters
pub count-lettered : (marks : List (Option ℕ)) (place : ℕ) (lines : List Line) → flag_count (lettered marks place lines) ≡ flag_count lines
count-lettered marks place [] = refl
count-lettered marks place (line ∷ lines) =
    let head = record line { letters = letters_at place marks } in
    let more = count-lettered marks (suc place) lines in
    omega (arith, more, sum_by-cons (λ line. cond line.flag 1 0) head (lettered marks (suc place) lines), sum_by-cons (λ line. cond line.flag 1 0) line lines)

-- where none has the flag, none does
pub none-flagged : (lines : List Line) → flag_count lines ≡ 0 → (place : ℕ) → place ≡ length lines → Unflagged place lines
none-flagged lines none place all i l =
    bare (get_or lines i (plain_line [])).flag (omega (arith, get_or-le-sum_by (λ line. cond line.flag 1 0) lines i (plain_line []) (omega arith)))
  where
    bare : (flag : Bool) → cond flag 1 0 ≤ 0 → flag ≡ false
    bare true h = absurd (omega arith)
    bare false h = refl

-- how far no line has the flag, once the first one has been looked for from there, or from the end
pub unflagged-found : (place from next : ℕ) (lines : List Line) → from ≤ place → Unflagged place lines → FirstFlagged from next lines → Unflagged next lines
unflagged-found place from next lines h none found i l = ⊎_elim
    (λ low. none i low)
    (λ high. found.none i (omega arith) l)
    (cases_lt i place)
