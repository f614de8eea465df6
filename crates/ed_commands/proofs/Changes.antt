-- What a change of the buffer leaves, and that undo would bring back the buffer before it.
use Rattle.std.proofs.Common.{◌≡◌, ◌≢◌, ℕ, ◌+◌, ◌-◌, ◌<◌, ◌≤◌, Bool, true, false, ◌&&◌, nat_le, List, [], ◌∷◌, length, map, get_or, refl, sym, ap, ◌∙◌, arith}
use Rattle.std.specs.Prelude.{Option, Some, Result, Ok, Err, option_map, unwrap_or}
use Rattle.std.proofs.lemmas.List.{length-map, get_or-map}
use Rattle.ed_base.specs.Lines.{lines_of}
use Rattle.ed_base.specs.Buffer.{Line, plain_line, texts, flagged_at, flagged_place}
use Rattle.ed_base.specs.declared.fault.Fault.{Fault}
use Rattle.ed_base.specs.declared.fault.Fault.TheVariants.{Destination}
use Rattle.ed_base.specs.Parts.{between, block, carried, exchanged, inserted}
use Rattle.line_store.proofs.Filled.{lines-some}
use Rattle.ed_syntax.specs.meaning.States.{State}
use Rattle.ed_syntax.specs.meaning.Globals.{next_taken, taken_at}
use Rattle.ed_syntax.specs.meaning.Ranges as ranges
use Rattle.ed_syntax.specs.meaning.Effects as effect
use Rattle.ed_syntax.specs.meaning.Effects.{altered, entered}
use Rattle.ed_commands.specs.declared.editor.past.Before.{Before}
use Rattle.ed_commands.specs.declared.editor.past.Change.{Change}
use Rattle.ed_commands.specs.Earlier.{PastValue, earlier_after, earlier_in, earlier_of, texts_before, with_earlier}
use Rattle.ed_commands.specs.Editors.{AreNew, kept_at, left_by, place_beside}
use Rattle.ed_commands.proofs.Blocks.{block-none, length-block, put-back}
use Rattle.ed_commands.proofs.Texts.{texts-carried, texts-exchanged, texts-flagged_at, texts-plain}

-- the lines become these, with what is kept of those before
pub changing : (s : State) (p q : PastValue) (b : Before) (c : Change) (n count : ℕ) (lines new : List Line) →
    texts_before c (texts lines) ≡ texts s.lines → lines ≡ new → n ≡ count →
    earlier_of p (texts s.lines) ≡ earlier_after b.listed (kept_at b.current s) (earlier_in s) →
    earlier_of q (texts lines) ≡ earlier_of p (texts_before c (texts lines)) →
    with_earlier (earlier_of q (texts lines)) (record s { lines = lines; current = n; changed = true }) ≡ left_by b s
    (altered new count s)
changing s p q b c n count lines new back put at begun kept =
    let earlier : earlier_of q (texts lines) ≡ earlier_after b.listed (kept_at b.current s) (earlier_in s) =
    kept ∙ ap (earlier_of p) back ∙ begun in
    ap (λ e. with_earlier e (record s { lines = lines; current = n; changed = true })) earlier
    ∙ ap (λ t. with_earlier (earlier_after b.listed (kept_at b.current s) (earlier_in s))
    (record s { lines = t; current = n; changed = true })) put
    ∙ ap (λ m. with_earlier (earlier_after b.listed (kept_at b.current s) (earlier_in s))
    (record s { lines = new; current = m; changed = true })) at

-- lines whose letters or flags alone changed, with what is kept
pub same-texts : (s : State) (p : PastValue) (n : ℕ) (lines new : List Line) → earlier_in s ≡ earlier_of p (texts s.lines) →
    lines ≡ new → texts new ≡ texts s.lines →
    with_earlier (earlier_of p (texts lines)) (record s { lines = lines; current = n }) ≡ record s { lines = new; current = n }
same-texts s p n lines new was put same =
    ap (λ e. with_earlier e (record s { lines = lines; current = n }))
    (ap (λ t. earlier_of p (texts t)) put ∙ ap (earlier_of p) same ∙ sym was)
    ∙ ap (λ t. record s { lines = t; current = n }) put

-- the next flagged line is taken
pub next-one : (s old : State) (p : PastValue) (place : ℕ) (found : Option ℕ) (lines : List Line) → s ≡ old →
    earlier_in s ≡ earlier_of p (texts s.lines) → found ≡ flagged_place s.lines → found ≡ Some place →
    lines ≡ flagged_at place false s.lines →
    with_earlier (earlier_of p (texts lines)) (record s { lines = lines; current = place + 1 }) ≡ unwrap_or (next_taken old) old
next-one s old p place found lines is was next at put =
    same-texts s p (place + 1) lines (flagged_at place false s.lines) was put (texts-flagged_at place false s.lines)
    ∙ ap (λ o. unwrap_or (option_map (taken_at s) o) s) (sym at ∙ next)
    ∙ ap (λ t. unwrap_or (next_taken t) t) is

-- what was put in place of lines, taken back on their texts
pub replaced-back : (from entered : ℕ) (removed after before : List Line) → exchanged from (from + entered) removed after ≡ before →
    exchanged from (from + entered) (texts removed) (texts after) ≡ texts before
replaced-back from entered removed after before back = sym (texts-exchanged from (from + entered) removed after) ∙ ap texts back

-- the same of texts that were kept of the lines in whose place others came
pub texts-back : (from to entered : ℕ) (removed : List (List ℕ)) (new after before : List Line) → from ≤ to →
    to ≤ length before → length new ≡ entered → removed ≡ texts (block from to before) →
    after ≡ exchanged from to new before → exchanged from (from + entered) removed (texts after) ≡ texts before
texts-back from to entered removed new after before h k counted taken put =
    ap (λ t. exchanged from (from + entered) t (texts after)) taken
    ∙ replaced-back from entered (block from to before) after before
    (ap (exchanged from (from + entered) (block from to before)) put ∙ put-back from to entered new before h k counted)

-- and where no line went out
pub texts-entered : (place entered : ℕ) (removed : List (List ℕ)) (new after before : List Line) → place ≤ length before →
    length new ≡ entered → removed ≡ [] → after ≡ inserted place new before →
    exchanged place (place + entered) removed (texts after) ≡ texts before
texts-entered place entered removed new after before h counted none put =
    texts-back place place entered removed new after before (omega arith) h counted (none ∙ ap texts (sym (block-none place before))) put

pub moved-back : (a b place : ℕ) (after before : List Line) → carried a b place after ≡ before →
    carried a b place (texts after) ≡ texts before
moved-back a b place after before back = sym (texts-carried a b place after) ∙ ap texts back

-- lines made of texts are new
pub made-new : (lines : List Line) (text : List (List ℕ)) → lines ≡ map plain_line text → AreNew lines
made-new lines text h = rw h (ap (map plain_line) (texts-plain text))

-- each of them is the line of its bytes
pub new-one : (lines : List Line) (i : ℕ) (line : Line) → AreNew lines → i < length lines → line ≡ get_or lines i line →
    line ≡ plain_line line.bytes
new-one lines i line new h e =
    e ∙ ap (λ t. get_or t i line) (sym new)
    ∙ get_or-map plain_line (texts lines) i line.bytes line (omega (arith, length-map lines (λ l. l.bytes)))
    ∙ ap plain_line (get_or-map (λ l. l.bytes) lines i line line.bytes h ∙ ap (λ l. l.bytes) (sym e))

-- some lines entered
pub entered-text : (a : ℕ) (text : List (List ℕ)) (s : State) → text ≢ [] →
    entered a text s ≡ altered (inserted a (map plain_line text) s.lines) (a + length text) s
entered-text a [] s h = absurd (h refl)
entered-text a (line ∷ more) s h = refl

-- some bytes have some lines
pub some-lines : (bytes : List ℕ) → bytes ≢ [] → lines_of bytes ≢ []
some-lines [] h none = h refl
some-lines (byte ∷ bytes) h none = let some = lines-some (byte ∷ bytes) (omega arith) in absurd (omega (arith, ap length none))

-- some lines copied
pub copied-some : (a b target : ℕ) (s : State) → 1 ≤ a → a ≤ b → b ≤ length s.lines →
    effect.copy (ranges.span a b) target s ≡ altered (inserted target (map plain_line (texts (block (a - 1) b s.lines))) s.lines)
    (target + (b - (a - 1))) s
copied-some a b target s h k l =
    let text = texts (block (a - 1) b s.lines) in
    let long : length text ≡ b - (a - 1) = length-map (block (a - 1) b s.lines) (λ line. line.bytes)
    ∙ length-block (a - 1) b s.lines l in
    entered-text target text s (λ none. absurd (omega (arith, ap length none)))
    ∙ ap (λ n. altered (inserted target (map plain_line text) s.lines) (target + n) s) long

pub changed-some : (text : List (List ℕ)) (x : ranges.Span) (s : State) → text ≢ [] →
    effect.change text x s ≡ altered (exchanged (x.first - 1) x.last (map plain_line text) s.lines)
    (x.first - 1 + length (map plain_line text)) s
changed-some [] x s h = absurd (h refl)
changed-some (line ∷ more) x s h =
    ap (λ n. altered (exchanged (x.first - 1) x.last (map plain_line (line ∷ more)) s.lines) (x.first - 1 + n) s)
    (sym (length-map (line ∷ more) plain_line))

-- a move to this place
placed : {A : Type 0} (inside : Bool) (fault : Fault) (left place : ℕ) (f : ℕ → Result A Fault) →
    ◌≡◌ {A = Result ℕ Fault} (elim inside [ true ↦ Err fault | false ↦ Ok left ]) (Ok place) →
    ◌≡◌ {A = Result A Fault} (elim inside [ true ↦ Err fault | false ↦ f left ]) (f place)
placed true fault left place f h = absurd cc
placed false fault left place f h = ap f (let e : left ≡ place = cc in e)

pub moved-to : (a b target place : ℕ) (s : State) → 1 ≤ a → a ≤ b → b ≤ length s.lines →
    place_beside (ranges.span a b) target ≡ Ok place →
    effect.move (ranges.span a b) target s ≡ Ok (altered (carried (a - 1) b place s.lines) (place + (b - (a - 1))) s)
moved-to a b target place s h k l p =
    placed (nat_le a target && nat_le target b) Destination (effect.place_left (ranges.span a b) target) place
    (λ n. Ok (altered (carried (a - 1) b n s.lines) (n + length (between a b s.lines)) s)) p
    ∙ ap (λ n. Ok (altered (carried (a - 1) b place s.lines) (place + n) s)) (length-block (a - 1) b s.lines l)
