-- The list of a global command as it lies in memory, and as a list of commands.
use Rattle.std.proofs.Common.{◌≡◌, ℕ, true, false, not, List, [], ◌∷◌, map, option_map, Option, Some, None, Result, Ok, Err, Vec, Global, refl, ap, sym, ◌∙◌}
use Rattle.std.specs.Prelude.{IfOk}
use mathlib.Core.Former.{Count}
use Rattle.std.proofs.lemmas.Bool.{false≢true, and_parts}
use Rattle.ed_syntax.specs.declared.command.Verb.{Verb, Row_of-Command, end_of-Command, more_of-Command, items-the_row-Command, items_hidden-the_row-Command-0}
use Rattle.ed_syntax.specs.declared.command.Verb.TheVariants as verb
use Rattle.ed_syntax.specs.declared.command.Command.{Command, out-Command}
use Rattle.ed_syntax.specs.declared.command.Sense.{Sense}
use Rattle.ed_syntax.specs.Commands as ed
use Rattle.ed_syntax.specs.meaning.Verbs.{marks_by_letter}
use Rattle.ed_syntax.specs.spelling.Spellings.{global_of}
use Rattle.ed_syntax.specs.reading.Tokens.{Parsed, ◌>>=◌}
use Rattle.ed_syntax.specs.reading.ReadCommands.{Taken, command_after_addresses}
use Rattle.ed_syntax.specs.reading.ReadGlobals.{sense_at}
use Rattle.ed_syntax.specs.reading.Reading.{step_by, step_after_addresses}
use Rattle.ed_syntax.specs.reading.ReadParts.{command_before, step_before, global_before, listed_before}
use Rattle.ed_syntax.specs.PublicTypes.{row_value, command_of, command_value, verb_value, list_value}
use Rattle.ed_syntax.proofs.reader.LetterLemmas.{is_global}
use Rattle.ed_syntax.proofs.reader.StandLemmas.{command_after_addresses-stands}

pub row_value-items : (n : _) (row : Row_of-Command n) → row_value row ≡ map command_value (items-the_row-Command n row)
row_value-items _ end_of-Command = refl
row_value-items _ (more_of-Command given verb suffix listed rest) = ap (λ cs. command_of given verb suffix listed ∷ cs) (row_value-items _ rest)

abbrev row_of : Verb → (n : Count) × Row_of-Command n
row_of (verb.Global' _ _ _ row) = (_, row)
row_of _ = (_, end_of-Command)

pub list_value_of_global : (sense : Sense) (pattern : Option (List ℕ)) (list : Vec Command Global) → map command_value list.items ≡ list_value (verb.Global sense pattern list)
list_value_of_global sense pattern list =
    let row = row_of (verb.Global sense pattern list) in
    sym (row_value-items row.0 row.1 ∙ ap (map command_value) (items_hidden-the_row-Command-0 list))

-- a command that isn't a global command has none
pub none_listed : (verb : Verb) → not (is_global (verb_value verb)) ≡ true → list_value verb ≡ []
none_listed (verb.Global' _ _ _ list) single = absurd (false≢true single)
none_listed _ single = refl

-- a global command with this list after it, before the lines after that
abbrev listing : ed.Addresses → Sense → Option (List ℕ) → List (List ℕ) → List ed.Command → Taken ed.Step
listing given which pattern left cs = Some (record { command = global_of given which pattern; list = cs }, left)

-- a global command with the commands of its list, as it lies in memory
pub global_read : (given : ed.Addresses) (which : Sense) (pattern : Option (List ℕ)) (list : Option (Vec Command Global)) (cs : Vec Command Global) (left : List (List ℕ)) →
    list ≡ Some cs → global_before given (Some (verb.Global which pattern cs)) left ≡ listed_before given which pattern (option_map (λ cs. cs.items) list) left
global_read given which pattern list cs left is =
    ap (listing given which pattern left) (sym (list_value_of_global which pattern cs))
    ∙ sym (ap (λ o. listed_before given which pattern (option_map (λ cs. cs.items) o) left) is)

-- a command that is read by itself has no list
pub single_read : (given : ed.Addresses) (own : List ℕ) (later : List (List ℕ)) (c : Option Command) (left : List (List ℕ)) → sense_at own ≡ None → command_before c left ≡ command_after_addresses false given own later →
    step_before c left ≡ step_after_addresses given own later
single_read given own later None left unsensed is =
    ap (λ (o : Taken ed.Command). o >>= λ r. Some (ed.alone r.0, r.1)) is ∙ ap (λ (o : Parsed Sense). step_by o given own later) (sym unsensed)
single_read given own later (Some c) left unsensed is =
    let stands = (command_after_addresses-stands false given own later (command_value c, left) (sym is)).sound in
    let single = none_listed (out-Command c).verb (and_parts (not (is_global (command_value c).verb)) (marks_by_letter (command_value c).verb) stands).0 in
    ap (λ list. Some (record { command = command_value c; list = list }, left)) single
    ∙ ap (λ (o : Taken ed.Command). o >>= λ r. Some (ed.alone r.0, r.1)) is
    ∙ ap (λ (o : Parsed Sense). step_by o given own later) (sym unsensed)

-- the same of what may come of reading
pub single_result : {E : Type 0} (given : ed.Addresses) (own : List ℕ) (later : List (List ℕ)) (r : Result (Option Command) E) (left : List (List ℕ)) → sense_at own ≡ None →
    IfOk r (λ c. command_before c left ≡ command_after_addresses false given own later) → IfOk r (λ c. step_before c left ≡ step_after_addresses given own later)
single_result given own later (Ok c) left unsensed is = single_read given own later c left unsensed is
single_result given own later (Err e) left unsensed is = is
