-- Letters that are put on the lines of the start.
use Rattle.std.proofs.Common.{◌≡◌, ◌≢◌, ◌<◌, ℕ, zero, suc, All, Bool, true, false, cond, inl, inr, List, [], ◌∷◌, map, length, get_or, set, Option, Some, None, refl, sym, ap, ◌∙◌, subst, arith, get_or-set_same, get_or-set_other, length-set, set-set}
use Rattle.std.specs.Prelude.{nat_lt}
use Rattle.std.specs.List.{position_or_len}
use Rattle.std.proofs.lemmas.Bool.{cases_lt, cases_eq, lt-ltb, cond-true}
use Rattle.std.proofs.lemmas.List.{map-set, set-get_or, set_comm, get_or_past}
use Rattle.std.proofs.lemmas.List.Elements.{All-nil, All-cons, All-head, All-tail}
use Rattle.std.proofs.lemmas.List.Folds.{position_or_len-set}
use Rattle.std.proofs.lemmas.List.Sums.{position_or_len_is}
use Rattle.std.proofs.Math.ListN.{get_or-map}
use Rattle.ed_base.specs.Buffer.{Line, plain_line, texts, has_letter, with_letter, with_flag, marked_place, marked_at, KnowLetters}
use Rattle.ed_base.specs.Lines.{newline}
use Rattle.ed_base.proofs.Letters.{marked_at-known}
use Rattle.ed_syntax.specs.meaning.States.{State, Past, Nothing, Open, unflagged}
use Rattle.ed_syntax.specs.meaning.Runs.{with_state, steps}
use Rattle.ed_syntax.specs.meaning.CommandLaws.{WellMarked, AreWhole}
use Rattle.ed_syntax.specs.meaning.Erasure.{lines_without, lines_without_all, state_without, state_without_all, Marks, letters_of, marked}
use Rattle.ed_syntax.specs.meaning.ErasureLaws.{StartsMayBeMarked, MarkedLinesAreWell, MarksStand}
use Rattle.ed_syntax.proofs.meaning.MarkLemmas.{well-plain, well-marked_at}
use Rattle.ed_syntax.proofs.meaning.WholeLemmas.{IsWhole}
use Rattle.ed_syntax.proofs.meaning.EachLine.{all-marked_at}
use Rattle.ed_syntax.proofs.meaning.ErasureLemmas.{bare, map-comm, plain-without, texts-without, get_or-without, length-without, marked_place-without}
use Rattle.ed_syntax.proofs.meaning.ErasedRuns.{runs_ignore_letters}

-- ONE MARK

bare-bare : (x : ℕ) (line : Line) → bare x (bare x line) ≡ bare x line
bare-bare x line = ap (λ (letters : List Bool). record line { letters = letters }) (set-set line.letters x false false)

bare-marked : (x : ℕ) (line : Line) → bare x (with_letter x true line) ≡ bare x line
bare-marked x line = ap (λ (letters : List Bool). record line { letters = letters }) (set-set line.letters x true false)

without-twice : (x : ℕ) (lines : List Line) → lines_without x (lines_without x lines) ≡ lines_without x lines
without-twice x [] = refl
without-twice x (line ∷ lines) = ap (λ l. l ∷ lines_without x (lines_without x lines)) (bare-bare x line) ∙ ap (λ ls. bare x line ∷ ls) (without-twice x lines)

-- what was marked is as it was once the letter is taken off
marked_at-taken : (place x : ℕ) (lines : List Line) → lines_without x (marked_at place x lines) ≡ lines_without x lines
marked_at-taken place x lines =
    let others = lines_without x lines in
    map-set (bare x) others place (with_letter x true (get_or others place (plain_line [])))
    ∙ ap (λ ls. set ls place (bare x (with_letter x true (get_or others place (plain_line []))))) (without-twice x lines)
    ∙ ap (λ line. set others place line)
    (bare-marked x (get_or others place (plain_line []))
    ∙ sym (get_or-without x others place)
    ∙ ap (λ ls. get_or ls place (plain_line [])) (without-twice x lines))
    ∙ set-get_or others place (plain_line [])

-- two letters are taken off in any order
bare-comm : (x y : ℕ) (line : Line) → bare x (bare y line) ≡ bare y (bare x line)
bare-comm x y line = elim (cases_eq x y) [
  | inl same ↦ ap (λ z. bare x (bare z line)) (sym same) ∙ ap (λ z. bare z (bare x line)) same
  | inr other ↦ ap (λ (letters : List Bool). record line { letters = letters }) (set_comm line.letters y x false false (λ e. other (sym e)))
]

without-comm : (x : ℕ) (letters : List ℕ) (lines : List Line) → lines_without_all letters (lines_without x lines) ≡ lines_without x (lines_without_all letters lines)
without-comm x [] lines = refl
without-comm x (y ∷ letters) lines =
    ap (λ ls. lines_without y ls) (without-comm x letters lines) ∙ map-comm (bare y) (bare x) (bare-comm y x) (lines_without_all letters lines)

-- SEVERAL MARKS

marked-taken : (marks : Marks) (text : List (List ℕ)) → lines_without_all (letters_of marks) (marked marks (map plain_line text)) ≡ map plain_line text
marked-taken [] text = refl
marked-taken (mark ∷ marks) text =
    let x = mark.0 in
    let lines = marked marks (map plain_line text) in
    sym (without-comm x (letters_of marks) (marked_at mark.1 x lines))
    ∙ ap (λ ls. lines_without_all (letters_of marks) ls) (marked_at-taken mark.1 x lines)
    ∙ without-comm x (letters_of marks) lines
    ∙ ap (λ ls. lines_without x ls) (marked-taken marks text)
    ∙ plain-without x text

-- an editor with nothing to be undone, in which no global command is open
state-taken : (letters : List ℕ) (s : State) → s.past ≡ Nothing → s.global ≡ None → state_without_all letters s ≡ record s { lines = lines_without_all letters s.lines }
state-taken [] s past global = refl
state-taken (x ∷ letters) s past global =
    let lines : List Line = lines_without_all letters s.lines in
    let plain : (p : Past) (g : Option Open) → p ≡ Nothing → g ≡ None →
    state_without x (record s { lines = lines; past = p; global = g }) ≡ record s { lines = lines_without x lines; past = p; global = g } =
    λ p g none closed.
    subst (λ (q : Past). state_without x (record s { lines = lines; past = q; global = g }) ≡ record s { lines = lines_without x lines; past = q; global = g }) (sym none)
    (subst (λ (h : Option Open). state_without x (record s { lines = lines; past = Nothing; global = h }) ≡ record s { lines = lines_without x lines; past = Nothing; global = h }) (sym closed)
    refl) in
    ap (λ (t : State). state_without x t) (state-taken letters s past global) ∙ plain s.past s.global past global

pub starts_may_be_marked : StartsMayBeMarked
starts_may_be_marked marks xs bad text m answers free plain past global =
    let s : State = record m.state { lines = marked marks (map plain_line text) } in
    sym (runs_ignore_letters (letters_of marks) xs bad (with_state s m) answers free)
    ∙ ap (λ (t : State). steps xs bad (with_state t m) answers) (state-taken (letters_of marks) s past global)
    ∙ ap (λ (ls : List Line). steps xs bad (with_state (record m.state { lines = ls }) m) answers) (marked-taken marks text ∙ sym plain)

-- WHAT THE LINES ARE

texts-plain : (text : List (List ℕ)) → texts (map plain_line text) ≡ text
texts-plain [] = refl
texts-plain (t ∷ text) = ap (λ l. t ∷ l) (texts-plain text)

get_or-texts : (lines : List Line) (i : ℕ) → (get_or lines i (plain_line [])).bytes ≡ get_or (texts lines) i []
get_or-texts [] i = refl
get_or-texts (line ∷ lines) zero = refl
get_or-texts (line ∷ lines) (suc i) = get_or-texts lines i

texts-marked_at : (place x : ℕ) (lines : List Line) → texts (marked_at place x lines) ≡ texts lines
texts-marked_at place x lines =
    let others = lines_without x lines in
    map-set (λ (line : Line). line.bytes) others place (with_letter x true (get_or others place (plain_line [])))
    ∙ ap (λ bytes. set (texts others) place bytes) (get_or-texts others place)
    ∙ set-get_or (texts others) place []
    ∙ texts-without x lines

texts-marked : (marks : Marks) (lines : List Line) → texts (marked marks lines) ≡ texts lines
texts-marked [] lines = refl
texts-marked (mark ∷ marks) lines = texts-marked_at mark.1 mark.0 (marked marks lines) ∙ texts-marked marks lines

well-marked : (marks : Marks) (lines : List Line) → WellMarked lines → WellMarked (marked marks lines)
well-marked [] lines well = well
well-marked (mark ∷ marks) lines well = well-marked_at mark.1 mark.0 (marked marks lines) (well-marked marks lines well)

whole-marked : (marks : Marks) (lines : List Line) → AreWhole lines → AreWhole (marked marks lines)
whole-marked [] lines all = all
whole-marked (mark ∷ marks) lines all =
    all-marked_at IsWhole (λ letter marks line h. h) (All-nil (λ byte. byte ≢ newline)) mark.1 mark.0 (marked marks lines) (whole-marked marks lines all)

unflagged-plain : (text : List (List ℕ)) → unflagged (map plain_line text) ≡ map plain_line text
unflagged-plain [] = refl
unflagged-plain (t ∷ text) = ap (λ ls. plain_line t ∷ ls) (unflagged-plain text)

unflagged-marked_at : (place x : ℕ) (lines : List Line) → unflagged lines ≡ lines → unflagged (marked_at place x lines) ≡ marked_at place x lines
unflagged-marked_at place x lines none =
    let bare_line = plain_line [] in
    let others = lines_without x lines in
    let same : unflagged others ≡ others = map-comm (with_flag false) (bare x) (λ line. refl) lines ∙ ap (λ ls. lines_without x ls) none in
    map-set (with_flag false) others place (with_letter x true (get_or others place bare_line))
    ∙ ap (λ ls. set ls place (with_flag false (with_letter x true (get_or others place bare_line)))) same
    ∙ ap (λ line. set others place (with_letter x true line))
    (sym (get_or-map (with_flag false) others place bare_line) ∙ ap (λ ls. get_or ls place bare_line) same)

unflagged-marked : (marks : Marks) (lines : List Line) → unflagged lines ≡ lines → unflagged (marked marks lines) ≡ marked marks lines
unflagged-marked [] lines none = none
unflagged-marked (mark ∷ marks) lines none = unflagged-marked_at mark.1 mark.0 (marked marks lines) (unflagged-marked marks lines none)

pub marked_lines_are_well : MarkedLinesAreWell
marked_lines_are_well marks text = (
  texts-marked marks (map plain_line text) ∙ texts-plain text,
  well-marked marks (map plain_line text) (well-plain text),
  unflagged-marked marks (map plain_line text) (unflagged-plain text),
  λ lines. whole-marked marks (map plain_line text) lines,
)

-- WHERE THE MARKS STAND

set-off : (letters : List Bool) (x : ℕ) → get_or (set letters x false) x false ≡ false
set-off letters x = elim (cases_lt x (length letters)) [
  | inl h ↦ get_or-set_same letters x false false h
  | inr h ↦ get_or_past (set letters x false) x false (omega (arith, length-set letters x false))
]

length-marked_at : (place x : ℕ) (lines : List Line) → length (marked_at place x lines) ≡ length lines
length-marked_at place x lines = length-set (lines_without x lines) place _ ∙ length-without x lines

length-marked : (marks : Marks) (lines : List Line) → length (marked marks lines) ≡ length lines
length-marked [] lines = refl
length-marked (mark ∷ marks) lines = length-marked_at mark.1 mark.0 (marked marks lines) ∙ length-marked marks lines

known-marked : (marks : Marks) (lines : List Line) → KnowLetters lines → KnowLetters (marked marks lines)
known-marked [] lines known = known
known-marked (mark ∷ marks) lines known = marked_at-known mark.1 mark.0 (marked marks lines) (known-marked marks lines known)

-- a letter is where it was put
own-place : (place x : ℕ) (lines : List Line) → x < 26 → place < length lines → KnowLetters lines → marked_place x (marked_at place x lines) ≡ Some place
own-place place x lines letter inside known =
    let bare_line = plain_line [] in
    let others = lines_without x lines in
    let all = marked_at place x lines in
    let size : length all ≡ length lines = length-marked_at place x lines in
    let room : length others ≡ length lines = length-without x lines in
    let wide : length (get_or others place bare_line).letters ≡ 26 =
    ap (λ (line : Line). length line.letters) (get_or-without x lines place)
    ∙ length-set (get_or lines place bare_line).letters x false ∙ known place bare_line inside in
    let at : position_or_len (has_letter x) all ≡ place =
    position_or_len_is (has_letter x) all place bare_line (omega arith)
    (λ k below.
    ap (has_letter x) (get_or-set_other others place k (with_letter x true (get_or others place bare_line)) bare_line (λ e. absurd (omega arith)))
    ∙ ap (has_letter x) (get_or-without x lines k) ∙ set-off (get_or lines k bare_line).letters x)
    (λ b.
    ap (has_letter x) (get_or-set_same others place (with_letter x true (get_or others place bare_line)) bare_line (omega arith))
    ∙ get_or-set_same (get_or others place bare_line).letters x true false (omega arith)) in
    ap (λ n. cond (nat_lt n (length all)) (Some n) None) at ∙ cond-true (nat_lt place (length all)) (Some place) None (lt-ltb place (length all) (omega arith))

-- and the others stay where they were
other-place : (place x y : ℕ) (lines : List Line) → y ≢ x → marked_place y (marked_at place x lines) ≡ marked_place y lines
other-place place x y lines other =
    let others = lines_without x lines in
    let line = with_letter x true (get_or others place (plain_line [])) in
    ap (λ n. cond (nat_lt n (length (set others place line))) (Some n) None)
    (position_or_len-set (has_letter y) others place line (plain_line []) (get_or-set_other (get_or others place (plain_line [])).letters x y true false other))
    ∙ ap (λ n. cond (nat_lt (position_or_len (has_letter y) others) n) (Some (position_or_len (has_letter y) others)) None) (length-set others place line)
    ∙ marked_place-without x y other lines

abbrev IsInside : List Line → ℕ × ℕ → Type 0
IsInside lines mark = (mark.0 < 26) × (mark.1 < length lines)

abbrev Stands : List Line → ℕ × ℕ → Type 0
Stands lines mark = marked_place mark.0 lines ≡ Some mark.1

-- a mark more leaves those that stand
stand-more : (place x : ℕ) (lines : List Line) (marks : Marks) → All (λ other. other.0 ≢ x) marks → All (Stands lines) marks → All (Stands (marked_at place x lines)) marks
stand-more place x lines [] apart stand = All-nil (Stands (marked_at place x lines))
stand-more place x lines (mark ∷ marks) apart stand =
    All-cons (Stands (marked_at place x lines)) mark marks
    (other-place place x mark.0 lines (All-head (λ (other : ℕ × ℕ). other.0 ≢ x) mark marks apart) ∙ All-head (Stands lines) mark marks stand)
    (stand-more place x lines marks (All-tail (λ (other : ℕ × ℕ). other.0 ≢ x) mark marks apart) (All-tail (Stands lines) mark marks stand))

pub marks_stand : MarksStand
marks_stand [] lines known apart inside = All-nil (Stands lines)
marks_stand (mark ∷ marks) lines known apart inside =
    let first = All-head (IsInside lines) mark marks inside in
    let before = marked marks lines in
    let size : length before ≡ length lines = length-marked marks lines in
    let place : mark.1 < length lines = first.1 in
    All-cons (Stands (marked (mark ∷ marks) lines)) mark marks
    (own-place mark.1 mark.0 before first.0 (omega arith) (known-marked marks lines known))
    (stand-more mark.1 mark.0 before marks apart.0 (marks_stand marks lines known apart.1 (All-tail (IsInside lines) mark marks inside)))
