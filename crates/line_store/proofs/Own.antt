-- Lines have just the letters whose places are read off them, whatever happens to their letters afterwards.
use Rattle.std.proofs.Common.{subst₂, ◌≤◌, ◌+◌, ◌≡◌, ℕ, zero, suc, ◌<◌, List, [], ◌∷◌, Bool, true, false, length, map, get_or, set, nat_lt, Option, Some, None, position, refl, ap, ◌∙◌, sym, arith, ⊎_elim}
use Rattle.std.specs.List.{position_or_len}
use Rattle.std.proofs.lemmas.Bool.{cases_lt, cases_eq, cases_Bool, cond-true, lt-ltb, false_from_ne_true}
use Rattle.std.proofs.lemmas.List.{same_lists, get_or_default, get_or_past}
use Rattle.std.proofs.lemmas.List.FromFn.{length-map-range_with_len, get_or-map-range_with_len}
use Rattle.std.proofs.lemmas.List.Quantifiers.{position-Some}
use Rattle.ed_base.specs.Buffer.{Line, plain_line, has_letter, with_letter, marked_place, marked_at, AtMostOnce, KnowLetters, SharesNoLetter}
use Rattle.line_store.specs.Marks.{is_at, letters_at, lettered, marks_of, AllBelow}
use Rattle.line_store.specs.Lettered.{none_marked}
use Rattle.line_store.proofs.Places.{is_there, not_at}
use Rattle.line_store.proofs.Lettered.{length-lettered, get_or-lettered, letters_at-are}

-- a line without letters shares none with any
pub plain_shares_none : (text : List ℕ) (lines : List Line) → SharesNoLetter (plain_line text) lines
plain_shares_none text lines letter h = let e : false ≡ true = sym (none_marked 26 letter) ∙ h in absurd cc

-- a letter's line is found where there is one
before-end : (p : Line → Bool) (lines : List Line) (k : ℕ) (d : Line) → k < length lines → p (get_or lines k d) ≡ true → position_or_len p lines < length lines
before-end p [] k d h e = absurd (omega arith)
before-end p (line ∷ lines) zero d h e = rw e (omega arith)
before-end p (line ∷ lines) (suc k) d h e = ⊎_elim
    (λ t. rw t (omega arith))
    (λ f. rw f (omega (arith, before-end p lines k d (omega arith) e)))
    (cases_Bool (p line))

found-somewhere : (p : Line → Bool) (lines : List Line) (k : ℕ) (d : Line) → k < length lines → p (get_or lines k d) ≡ true → position p lines ≡ Some (position_or_len p lines)
found-somewhere p lines k d h e =
    cond-true (nat_lt (position_or_len p lines) (length lines)) (Some (position_or_len p lines)) None (lt-ltb (position_or_len p lines) (length lines) (before-end p lines k d h e))

-- a letter's place is this one where the line has it
at-own : (lines : List Line) (letter k : ℕ) (o : Option ℕ) → AtMostOnce lines → k < length lines → marked_place letter lines ≡ o →
    is_at k o ≡ has_letter letter (get_or lines k (plain_line []))
at-own lines letter k None once h e =
    sym (false_from_ne_true (has_letter letter (get_or lines k (plain_line [])))
    (λ t. let f : ◌≡◌ {A = Option ℕ} None (Some (position_or_len (has_letter letter) lines)) = sym e ∙ found-somewhere (has_letter letter) lines k (plain_line []) h t in absurd cc))
at-own lines letter k (Some i) once h e =
    let there : has_letter letter (get_or lines i (plain_line [])) ≡ true = (position-Some (has_letter letter) lines i (plain_line []) e).1 in
    ⊎_elim
    (λ same. ap (λ n. is_at k (Some n)) same ∙ is_there k ∙ sym (ap (λ n. has_letter letter (get_or lines n (plain_line []))) (sym same) ∙ there))
    (λ other. not_at k i other ∙ sym (false_from_ne_true (has_letter letter (get_or lines k (plain_line []))) (λ t. other (once letter i k there t))))
    (cases_eq i k)

-- the letters that are read off lines are theirs
pub lettered-own : (lines : List Line) → AtMostOnce lines → KnowLetters lines → lettered (marks_of lines) 0 lines ≡ lines
lettered-own lines once known =
    let marks = marks_of lines in
    same_lists (lettered marks 0 lines) lines (length-lettered marks 0 lines)
    (λ k d b.
    let inside : k < length lines = omega (arith, length-lettered marks 0 lines) in
    let line = get_or lines k d in
    get_or-lettered marks 0 k k lines d inside (omega arith)
    ∙ ap (λ t. record line { letters = t }) (letters_at-are k marks line.letters (known k d inside) (λ letter l.
    ap (is_at k) (get_or-map-range_with_len (λ n. marked_place n lines) 0 26 letter letter None l (omega arith))
    ∙ at-own lines letter k (marked_place letter lines) once inside refl
    ∙ ap (has_letter letter) (get_or_default lines k (plain_line []) d inside))))

-- their places are among theirs
pub marks-below : (lines : List Line) → AllBelow (length lines) (marks_of lines)
marks-below lines letter place e = ⊎_elim
    (λ l. (position-Some (has_letter letter) lines place (plain_line [])
    (sym (get_or-map-range_with_len (λ n. marked_place n lines) 0 26 letter letter None l (omega arith)) ∙ e)).0)
    (λ l. let f : ◌≡◌ {A = Option ℕ} None (Some place) =
    sym (get_or_past (marks_of lines) letter None (omega (arith, length-map-range_with_len (λ n. marked_place n lines) 0 26))) ∙ e in absurd cc)
    (cases_lt letter 26)

-- letters that lines had don't count for those that they are given
lettered-taken : (marks : List (Option ℕ)) (place letter : ℕ) (lines : List Line) → lettered marks place (map (with_letter letter false) lines) ≡ lettered marks place lines
lettered-taken marks place letter [] = refl
lettered-taken marks place letter (line ∷ lines) = ap (λ t. record line { letters = letters_at place marks } ∷ t) (lettered-taken marks (suc place) letter lines)

lettered-given : (marks : List (Option ℕ)) (place i letter : ℕ) (lines : List Line) (d : Line) → lettered marks place (set lines i (with_letter letter true (get_or lines i d))) ≡ lettered marks place lines
lettered-given marks place i letter [] d = refl
lettered-given marks place zero letter (line ∷ lines) d = refl
lettered-given marks place (suc i) letter (line ∷ lines) d = ap (λ t. record line { letters = letters_at place marks } ∷ t) (lettered-given marks (suc place) i letter lines d)

-- so a letter that marks another line later changes nothing there
pub lettered-marked : (marks : List (Option ℕ)) (place i letter : ℕ) (lines : List Line) → lettered marks place (marked_at i letter lines) ≡ lettered marks place lines
lettered-marked marks place i letter lines =
    lettered-given marks place i letter (map (with_letter letter false) lines) (plain_line []) ∙ lettered-taken marks place letter lines

pub lettered-lettered : (marks others : List (Option ℕ)) (place : ℕ) (lines : List Line) → lettered marks place (lettered others place lines) ≡ lettered marks place lines
lettered-lettered marks others place [] = refl
lettered-lettered marks others place (line ∷ lines) = ap (λ t. record line { letters = letters_at place marks } ∷ t) (lettered-lettered marks others (suc place) lines)

-- a line shares no letter with those among which it stands, if a letter marks one line at most
place-cases : (o : Option ℕ) → ((k : ℕ) → o ≡ Some k → ⊥) → o ≡ None
place-cases None h = refl
place-cases (Some k) h = absurd (h k refl)
