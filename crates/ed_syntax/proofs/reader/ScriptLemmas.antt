-- The script of the lines that are left, one command at a time.
use Rattle.std.proofs.Common.{◌≡◌, ℕ, zero, suc, ◌+◌, ◌-◌, ◌≤◌, Bool, true, false, List, [], ◌∷◌, ◌++◌, length, drop, Option, Some, None, refl, sym, ap, ◌∙◌, subst, arith, append_assoc}
use Rattle.ed_syntax.specs.declared.command.Sense.{Sense}
use Rattle.ed_syntax.specs.spelling.Characters.{is_delimiter}
use Rattle.ed_syntax.specs.Commands.{Addresses, Verb, Command, Step, Script, alone}
use Rattle.ed_syntax.specs.spelling.Spellings.{global_of}
use Rattle.ed_syntax.specs.reading.Tokens.{pattern_at, addresses}
use Rattle.ed_syntax.specs.meaning.Verbs.{takes}
use Rattle.ed_syntax.specs.spelling.CommandLetters.{entering}
use Rattle.ed_syntax.specs.reading.ReadCommands.{is_dot, text, with_text, heading_after_addresses, finished, Taken, command_after_addresses, command_at}
use Rattle.ed_syntax.specs.reading.ReadGlobals.{joined, list_of, with_list, global_by, global_after_addresses, sense_at}
use Rattle.ed_syntax.specs.reading.Reading.{step_by, step_after_addresses, step_at, script, followed}
use Rattle.ed_syntax.proofs.meaning.StepLemmas.{Some-same, none_some, bind-some, either}
use Rattle.ed_syntax.proofs.reader.LaterLemmas.{heading-later}
use Rattle.ed_syntax.proofs.reader.JoinedLemmas.{joined-later}

-- steps before a script
abbrev pub all_before : List Step → Script → Script
all_before xs s = record { steps = xs ++ s.steps; fault = s.fault }

-- no lines stand after a text but those that stood after its command
pub text-later : (lines : List (List ℕ)) → length (text lines).1 ≤ length lines
text-later [] = omega arith
text-later (line ∷ lines) =
    elim (is_dot line) as (λ t. length (let r : List (List ℕ) × List (List ℕ) = elim t [ true ↦ ([], lines) | false ↦ (line ∷ (text lines).0, (text lines).1) ] in r.1) ≤ suc (length lines)) [
      | true ↦ omega arith
      | false ↦ omega (arith, text-later lines)
    ]

-- the same of a command's verb
pub with_text-later : (verb : Verb) (later : List (List ℕ)) → length (with_text verb later).1 ≤ length later
with_text-later verb later =
    elim (takes verb).text as (λ t. length (let r : Verb × List (List ℕ) = elim t [ true ↦ (entering (text later).0 verb, (text later).1) | false ↦ (verb, later) ] in r.1) ≤ length later) [
      | true ↦ text-later later
      | false ↦ omega arith
    ]

-- the same of a command
command_after_addresses-later : (listed : Bool) (given : Addresses) (own : List ℕ) (later : List (List ℕ)) (r : Command × List (List ℕ)) → command_after_addresses listed given own later ≡ Some r → length r.1 ≤ length later
command_after_addresses-later listed given own later r is =
    let h = bind-some (heading_after_addresses listed given own later) (λ h. Some (finished listed h.0 h.1)) r is in
    let P : Command × List (List ℕ) → Type 0 = λ r. length r.1 ≤ length later in
    subst P (Some-same (finished listed h.0.0 h.0.1) r h.2) (omega (arith, with_text-later h.0.0.verb h.0.1, heading-later listed given own later h.0 h.1))

pub command_at-later : (listed : Bool) (line : List ℕ) (later : List (List ℕ)) (r : Command × List (List ℕ)) → command_at listed line later ≡ Some r → length r.1 ≤ length later
command_at-later listed line later r is =
    let given = bind-some (addresses line) (λ a. command_after_addresses listed a.0 a.1 later) r is in
    command_after_addresses-later listed given.0.0 given.0.1 later r given.2

-- the same of a global command
abbrev StepLater : List (List ℕ) → Taken Step → Type 0
StepLater later read = (r : Step × List (List ℕ)) → read ≡ Some r → length r.1 ≤ length later

global_by-later : (given : Addresses) (which : Sense) (delimiter : ℕ) (bs : List ℕ) (later : List (List ℕ)) → StepLater later (global_by given which delimiter bs later)
global_by-later given which delimiter bs later r is =
    let q = bind-some (pattern_at delimiter bs) (λ q. with_list given which q.0 (joined (drop 1 q.1) later)) r is in
    let list = joined (drop 1 q.0.1) later in
    let cs = bind-some (list_of list.0) (λ cs. Some (record { command = global_of given which q.0.0; list = cs }, list.1)) r q.2 in
    let P : Step × List (List ℕ) → Type 0 = λ r. length r.1 ≤ length later in
    subst P (Some-same (record { command = global_of given which q.0.0; list = cs.0 }, list.1) r cs.2) (joined-later (drop 1 q.0.1) later)

global-later : (given : Addresses) (which : Sense) (bs : List ℕ) (later : List (List ℕ)) → StepLater later (global_after_addresses given which bs later)
global-later given which [] later = λ r is. absurd (none_some is)
global-later given which (b ∷ bs) later =
    either (StepLater later) (is_delimiter b) (global_by given which b bs later) None (λ good. global_by-later given which b bs later) (λ bad r is. absurd (none_some is))

-- the same of a step
step_by-later : (o : Option (Sense × List ℕ)) (given : Addresses) (own : List ℕ) (later : List (List ℕ)) → StepLater later (step_by o given own later)
step_by-later (Some g) given own later = global-later given g.0 g.1 later
step_by-later None given own later = λ r is.
    let c = bind-some (command_after_addresses false given own later) (λ c. Some (alone c.0, c.1)) r is in
    let P : Step × List (List ℕ) → Type 0 = λ r. length r.1 ≤ length later in
    subst P (Some-same (alone c.0.0, c.0.1) r c.2) (command_after_addresses-later false given own later c.0 c.1)

pub step_at-later : (line : List ℕ) (later : List (List ℕ)) (r : Step × List (List ℕ)) → step_at line later ≡ Some r → length r.1 ≤ length later
step_at-later line later r is =
    let given = bind-some (addresses line) (λ a. step_after_addresses a.0 a.1 later) r is in
    step_by-later (sense_at given.0.1) given.0.0 given.0.1 later r given.2

-- the script from a step on
abbrev pub from_step : ℕ → ℕ → List (List ℕ) → Option (Step × List (List ℕ)) → Script
from_step n number later None = record { steps = []; fault = Some number }
from_step n number later (Some r) = followed r.0 (script n (number + (suc (length later) - length r.1)) r.1)

-- at one step the greatest number of steps doesn't matter, if it doesn't after it
from_enough : (k j number : ℕ) (line : List ℕ) (later : List (List ℕ)) →
    ((next : ℕ) (rest : List (List ℕ)) → length rest ≤ length later → script k next rest ≡ script j next rest) →
    (o : Option (Step × List (List ℕ))) → step_at line later ≡ o → from_step k number later o ≡ from_step j number later o
from_enough k j number line later same None is = refl
from_enough k j number line later same (Some r) is =
    ap (followed r.0) (same (number + (suc (length later) - length r.1)) r.1 (step_at-later line later r is))

-- from where it reaches no more steps than lines, the greatest number of steps doesn't matter
script-enough : (k j number : ℕ) (lines : List (List ℕ)) → length lines ≤ k → length lines ≤ j → script k number lines ≡ script j number lines
script-enough k j number [] in_k in_j = refl
script-enough zero j number (line ∷ later) in_k in_j = absurd (omega (arith, in_k))
script-enough (suc k) zero number (line ∷ later) in_k in_j = absurd (omega (arith, in_j))
script-enough (suc k) (suc j) number (line ∷ later) in_k in_j =
    from_enough k j number line later
    (λ next rest shorter. script-enough k j next rest (omega (arith, in_k, shorter)) (omega (arith, in_j, shorter)))
    (step_at line later) refl

-- a step, and the script after it
pub script-next : (line : List ℕ) (later rest : List (List ℕ)) (x : Step) (number next : ℕ) → step_at line later ≡ Some (x, rest) → next + length rest ≡ number + suc (length later) →
    script (length (line ∷ later)) number (line ∷ later) ≡ followed x (script (length rest) next rest)
script-next line later rest x number next is counted =
    let shorter : length rest ≤ length later = step_at-later line later (x, rest) is in
    let same : number + (suc (length later) - length rest) ≡ next = omega arith in
    ap (from_step (length later) number later) is
    ∙ ap (followed x) (script-enough (length later) (length rest) (number + (suc (length later) - length rest)) rest shorter (omega arith) ∙ ap (λ n. script (length rest) n rest) same)

-- a step that can't be read
pub script-stuck : (line : List ℕ) (later : List (List ℕ)) (number : ℕ) → step_at line later ≡ None →
    script (length (line ∷ later)) number (line ∷ later) ≡ record { steps = []; fault = Some number }
script-stuck line later number is = ap (from_step (length later) number later) is

-- one step more
pub all_before-next : (before : List Step) (line : List ℕ) (later lines rest : List (List ℕ)) (x : Step) (number next : ℕ) →
    lines ≡ line ∷ later → step_at line later ≡ Some (x, rest) → next + length rest ≡ number + length lines →
    all_before (before ++ x ∷ []) (script (length rest) next rest) ≡ all_before before (script (length lines) number lines)
all_before-next before line later lines rest x number next split is counted =
    let after = script (length rest) next rest in
    let all : next + length rest ≡ number + suc (length later) = counted ∙ ap (λ ls. number + length ls) split in
    ap (λ xs. record { steps = xs; fault = after.fault }) (append_assoc before (x ∷ []) after.steps)
    ∙ ap (all_before before) (sym (script-next line later rest x number next is all) ∙ ap (λ ls. script (length ls) number ls) (sym split))
