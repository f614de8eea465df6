-- Scripts: what is read is spelled so, and what is spelled so is read.
use Rattle.std.proofs.Common.{◌≡◌, ◌≢◌, ℕ, zero, suc, ◌+◌, ◌-◌, ◌≤◌, true, List, [], ◌∷◌, ◌++◌, length, Option, Some, None, refl, sym, ap, ◌∙◌, subst, arith, append-nil}
use Rattle.std.specs.List.{list_all}
use Rattle.std.proofs.lemmas.Bool.{and_from, and_parts}
use Rattle.std.proofs.lemmas.List.Folds.{list_all-append}
use Rattle.ed_base.specs.Lines.{AreLines, lines_of, bytes_of}
use Rattle.ed_base.proofs.LineLemmas.{HoldsLines-lines, HoldsLines-lines_of, lines_of-bytes_of}
use Rattle.ed_syntax.specs.Commands.{Step, Script}
use Rattle.ed_syntax.specs.meaning.Verbs.{is_step}
use Rattle.ed_syntax.specs.spelling.Spellings as spelled
use Rattle.ed_syntax.specs.spelling.Spellings.{Spells, SpellsEach, SpellsSteps, SpellsWhatIsRead, ReadsWhatIsSpelled, line_at_rest}
use Rattle.ed_syntax.specs.reading.Reading.{step_at, script, script_of, followed}
use Rattle.ed_syntax.proofs.meaning.StepLemmas.{none_some}
use Rattle.ed_syntax.proofs.reader.TextLemmas.{LeftLines, no_lines}
use Rattle.ed_syntax.proofs.reader.ScriptSteps.{step-sound, step-complete}
use Rattle.ed_syntax.proofs.reader.ScriptLemmas.{all_before, from_step, step_at-later, script-next}

-- no front of these lines spells a step
abbrev Stuck : List (List ℕ) → Type 0
Stuck lines = (bytes rest : List ℕ) (x : Step) → bytes_of lines ≡ bytes ++ rest → Spells bytes rest x → ⊥

-- lines spell this script, where the first of them has this number
data SpellsLines (number : ℕ) (lines : List (List ℕ)) : Script → Type 0 where
  whole : (xs : List Step) → SpellsEach Spells (bytes_of lines) [] xs → SpellsLines number lines (record { steps = xs; fault = None })
  stuck : (left : List (List ℕ)) (xs : List Step) → SpellsEach Spells (bytes_of lines) (bytes_of left) xs → AreLines left → length left ≤ length lines → left ≢ [] → Stuck left →
      SpellsLines number lines (record { steps = xs; fault = Some (number + (length lines - length left)) })

-- what is read in front of lines
abbrev read_first : List (List ℕ) → Option (Step × List (List ℕ))
read_first [] = None
read_first (line ∷ later) = step_at line later

-- where no step can be read, no front of the lines spells one
no_front : (line : List ℕ) (later : List (List ℕ)) → AreLines (line ∷ later) → step_at line later ≡ None → Stuck (line ∷ later)
no_front line later are none bytes rest x split is =
    let found = step-complete is (line ∷ later) are (sym split) in
    none_some (sym none ∙ ap read_first found.split ∙ found.read)

-- a step before lines that spell a script
spelled_next : (number next : ℕ) (lines rest : List (List ℕ)) (bytes : List ℕ) (x : Step) (s : Script) → bytes_of lines ≡ bytes ++ bytes_of rest → Spells bytes (bytes_of rest) x →
    length rest ≤ length lines → next ≡ number + (length lines - length rest) → SpellsLines next rest s → SpellsLines number lines (followed x s)
spelled_next number next lines rest bytes x s split is shorter counted (whole xs each) =
    whole (x ∷ xs) (subst (λ text. SpellsEach Spells text [] (x ∷ xs)) (sym split) (spelled.next bytes (bytes_of rest) [] x xs is each))
spelled_next number next lines rest bytes x s split is shorter counted (stuck left xs each are short some refused) =
    let same : number + (length lines - length left) ≡ next + (length rest - length left) = omega (arith, counted, shorter, short) in
    subst (λ n. SpellsLines number lines (record { steps = x ∷ xs; fault = Some n })) same
    (stuck left (x ∷ xs) (subst (λ text. SpellsEach Spells text (bytes_of left) (x ∷ xs)) (sym split) (spelled.next bytes (bytes_of rest) (bytes_of left) x xs is each))
    are (omega (arith, short, shorter)) some refused)

-- a step that is read, and lines after it that spell a script
step_spelled : (n number : ℕ) (line : List ℕ) (later : List (List ℕ)) → AreLines (line ∷ later) → length later ≤ n →
    ((next : ℕ) (rest : List (List ℕ)) → AreLines rest → length rest ≤ n → SpellsLines next rest (script n next rest)) →
    (o : Option (Step × List (List ℕ))) → step_at line later ≡ o → SpellsLines number (line ∷ later) (from_step n number later o)
step_spelled n number line later are enough after None is =
    let same : number + (length (line ∷ later) - length (line ∷ later)) ≡ number = omega arith in
    subst (λ n. SpellsLines number (line ∷ later) (record { steps = []; fault = Some n })) same
    (stuck (line ∷ later) [] (spelled.over (bytes_of (line ∷ later))) are (omega arith) (λ same. cc) (no_front line later are is))
step_spelled n number line later are enough after (Some r) is =
    let read = (step-sound line later r are is).first in
    let short = step_at-later line later r is in
    let next = number + (suc (length later) - length r.1) in
    spelled_next number next (line ∷ later) r.1 read.bytes r.0 (script n next r.1) read.split read.spells (omega (arith, short)) refl
    (after next r.1 read.are (omega (arith, short, enough)))

-- a script that is read is spelled so
script-sound : (n number : ℕ) (lines : List (List ℕ)) → AreLines lines → length lines ≤ n → SpellsLines number lines (script n number lines)
script-sound n number [] are enough = whole [] (spelled.over [])
script-sound zero number (line ∷ later) are enough = absurd (omega (arith, enough))
script-sound (suc n) number (line ∷ later) are enough =
    step_spelled n number line later are (omega (arith, enough)) (λ next rest rest_are rest_enough. script-sound n next rest rest_are rest_enough) (step_at line later) refl

-- the line with which a rest begins
rest_number : (lines left : List (List ℕ)) → AreLines lines → AreLines left → line_at_rest (bytes_of lines) (bytes_of left) ≡ 1 + (length lines - length left)
rest_number lines left are left_are =
    ap (λ ls. length ls - length (lines_of (bytes_of left)) + 1) (lines_of-bytes_of lines are)
    ∙ ap (λ ls. length lines - length ls + 1) (lines_of-bytes_of left left_are)
    ∙ omega arith

-- a text that isn't nothing
some_bytes : (left : List (List ℕ)) → left ≢ [] → bytes_of left ≢ []
some_bytes left some same = some (no_lines left (sym same))

-- lines from the first on spell their script
from_first : (lines : List (List ℕ)) (s : Script) → AreLines lines → SpellsLines 1 lines s → SpellsSteps (bytes_of lines) s
from_first lines s are (whole xs each) = spelled.whole (bytes_of lines) xs each
from_first lines s are (stuck left xs each left_are short some refused) =
    subst (λ n. SpellsSteps (bytes_of lines) (record { steps = xs; fault = Some n })) (rest_number lines left are left_are)
    (spelled.stuck (bytes_of lines) (bytes_of left) xs each (some_bytes left some) refused)

-- steps that are spelled so are read, and the rest begins with a line
record StepsRead (number : ℕ) (lines : List (List ℕ)) (rest : List ℕ) (xs : List Step) : Type 0 where
  left : LeftLines rest
  shorter : length left.lines ≤ length lines
  read : script (length lines) number lines ≡ all_before xs (script (length left.lines) (number + (length lines - length left.lines)) left.lines)

each-complete : {text rest : List ℕ} {xs : List Step} → SpellsEach Spells text rest xs → (number : ℕ) (lines : List (List ℕ)) → AreLines lines → text ≡ bytes_of lines → StepsRead number lines rest xs
each-complete (spelled.over rest) number lines are same =
    let here : number ≡ number + (length lines - length lines) = omega arith in
    record { left = record { lines = lines; split = same; are = are }; shorter = omega arith; read = ap (λ n. script (length lines) n lines) here }
each-complete (spelled.next bytes more rest x xs is each) number lines are same =
    let found = step-complete is lines are same in
    let middle = found.left.lines in
    let short = step_at-later found.line found.later (x, middle) found.read in
    let size : length lines ≡ suc (length found.later) = ap length found.split in
    let next = number + (length lines - length middle) in
    let later = each-complete each next middle found.left.are found.left.split in
    let left = later.left.lines in
    let counted : next + length middle ≡ number + suc (length found.later) = omega (arith, size, short) in
    let on : next + (length middle - length left) ≡ number + (length lines - length left) = omega (arith, size, short, later.shorter) in
    record {
      left = later.left;
      shorter = omega (arith, size, short, later.shorter);
      read = ap (λ lines. script (length lines) number lines) found.split
          ∙ script-next found.line found.later middle x number next found.read counted
          ∙ ap (followed x) (later.read ∙ ap (λ n. all_before xs (script (length left) n left)) on);
    }

-- nothing is left
none_left : (number : ℕ) (left : List (List ℕ)) (xs : List Step) → left ≡ [] → all_before xs (script (length left) number left) ≡ record { steps = xs; fault = None }
none_left number left xs none = ap (λ left. all_before xs (script (length left) number left)) none ∙ ap (λ xs. record { steps = xs; fault = None }) (append-nil xs)

-- lines that spell no step are left
stuck_step : (number n : ℕ) (line : List ℕ) (later : List (List ℕ)) → AreLines (line ∷ later) → Stuck (line ∷ later) → (o : Option (Step × List (List ℕ))) → step_at line later ≡ o →
    from_step n number later o ≡ record { steps = []; fault = Some number }
stuck_step number n line later are refused None is = refl
stuck_step number n line later are refused (Some r) is =
    let read = (step-sound line later r are is).first in
    absurd (refused read.bytes (bytes_of r.1) r.0 read.split read.spells)

stuck_left : (number : ℕ) (left : List (List ℕ)) → AreLines left → left ≢ [] → Stuck left → script (length left) number left ≡ record { steps = []; fault = Some number }
stuck_left number [] are some refused = absurd (some refl)
stuck_left number (line ∷ later) are some refused = stuck_step number (length later) line later are refused (step_at line later) refl

-- a script that is spelled so is read
script-complete : {text : List ℕ} {s : Script} → SpellsSteps text s → (lines : List (List ℕ)) → AreLines lines → text ≡ bytes_of lines → script (length lines) 1 lines ≡ s
script-complete (spelled.whole text xs each) lines are same =
    let read = each-complete each 1 lines are same in
    read.read ∙ none_left (1 + (length lines - length read.left.lines)) read.left.lines xs (no_lines read.left.lines read.left.split)
script-complete (spelled.stuck text rest xs each some refused) lines are same =
    let read = each-complete each 1 lines are same in
    let left = read.left.lines in
    let number = 1 + (length lines - length left) in
    let there : number ≡ line_at_rest text rest =
    sym (rest_number lines left are read.left.are) ∙ ap (λ text. line_at_rest text (bytes_of left)) (sym same) ∙ ap (line_at_rest text) (sym read.left.split) in
    read.read
    ∙ ap (all_before xs) (stuck_left number left read.left.are (λ none. some (read.left.split ∙ ap bytes_of none)) (λ bytes more x split. refused bytes more x (read.left.split ∙ split)))
    ∙ ap (λ steps. record { steps = steps; fault = Some number }) (append-nil xs)
    ∙ ap (λ n. record { steps = xs; fault = Some n }) there

-- the lines of bytes are lines
are_lines : (bytes : List ℕ) → AreLines (lines_of bytes)
are_lines bytes = HoldsLines-lines (HoldsLines-lines_of bytes)

-- the steps of a script that is read may be such
from_step-stands : (n number : ℕ) (line : List ℕ) (later : List (List ℕ)) → AreLines (line ∷ later) →
    ((next : ℕ) (rest : List (List ℕ)) → AreLines rest → list_all is_step (script n next rest).steps ≡ true) →
    (o : Option (Step × List (List ℕ))) → step_at line later ≡ o → list_all is_step (from_step n number later o).steps ≡ true
from_step-stands n number line later are after None is = refl
from_step-stands n number line later are after (Some r) is =
    let read = step-sound line later r are is in
    let next = number + (suc (length later) - length r.1) in
    and_from (is_step r.0) (list_all is_step (script n next r.1).steps) read.stands (after next r.1 read.first.are)

script-stands : (n number : ℕ) (lines : List (List ℕ)) → AreLines lines → list_all is_step (script n number lines).steps ≡ true
script-stands n number [] are = refl
script-stands zero number (line ∷ later) are = refl
script-stands (suc n) number (line ∷ later) are =
    from_step-stands n number line later are (λ next rest rest_are. script-stands n next rest rest_are) (step_at line later) refl

script_of-stands : (bytes : List ℕ) → list_all is_step (script_of bytes).steps ≡ true
script_of-stands bytes = script-stands (length (lines_of bytes)) 1 (lines_of bytes) (are_lines bytes)

-- and so may the first ones
pub first-stand : (bytes : List ℕ) (xs : List Step) (s : Script) → all_before xs s ≡ script_of bytes → list_all is_step xs ≡ true
first-stand bytes xs s is =
    let all : list_all is_step (xs ++ s.steps) ≡ true = ap (λ (s : Script). list_all is_step s.steps) is ∙ script_of-stands bytes in
    (and_parts (list_all is_step xs) (list_all is_step s.steps) (sym (list_all-append is_step xs s.steps) ∙ all)).0

pub what_is_read : SpellsWhatIsRead script_of
what_is_read bytes =
    from_first (lines_of bytes) (script_of bytes) (are_lines bytes) (script-sound (length (lines_of bytes)) 1 (lines_of bytes) (are_lines bytes) (omega arith))

pub what_is_spelled : ReadsWhatIsSpelled script_of
what_is_spelled bytes s is = script-complete is (lines_of bytes) (are_lines bytes) refl
