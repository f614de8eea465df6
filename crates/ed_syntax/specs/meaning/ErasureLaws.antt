-- What holds of letters that aren't named: they change no output, no request and no ending, so that they may mark any line of the start.
use Rattle.std.specs.Prelude.{◌≡◌, ◌<◌, ℕ, List, map, length, All, Option, Some, None, Ok, IsFalse}
use Rattle.ed_base.specs.Buffer.{Line, plain_line, texts, marked_place, KnowLetters}
use Rattle.ed_syntax.specs.declared.request.Answer.{Answer}
use Rattle.ed_syntax.specs.Commands.{Command, Step}
use Rattle.ed_syntax.specs.meaning.States.{State, Nothing, unflagged}
use Rattle.ed_syntax.specs.meaning.Values.{◌>>◌}
use Rattle.ed_syntax.specs.meaning.Applied.{command}
use Rattle.ed_syntax.specs.meaning.Progress.{Present}
use Rattle.ed_syntax.specs.meaning.Runs.{with_state, steps}
use Rattle.ed_syntax.specs.meaning.CommandLaws.{WellMarked, AreWhole}
use Rattle.ed_syntax.specs.meaning.Erasure.{command_names, steps_name, effect_without, state_without, present_without_all, Marks, letters_of, marked, AreApart}

-- a command that doesn't name a letter does without it what it does with it, and leaves it where it was
abbrev pub CommandsLeaveLetters : Type 0
CommandsLeaveLetters = (letter : ℕ) (s : State) (c : Command) (given : Option Answer) → IsFalse (command_names letter c) →
    command (state_without letter s) c given ≡ (command s c given >> λ e. Ok (effect_without letter e))

-- what is left of a run is the same without letters that it doesn't name: its output, its requests and its ending
abbrev pub RunsIgnoreLetters : Type 0
RunsIgnoreLetters = (letters : List ℕ) (xs : List Step) (bad : Option ℕ) (m : Present) (answers : List Answer) →
    IsFalse (steps_name letters xs) →
    steps xs bad (present_without_all letters m) answers ≡ steps xs bad m answers

-- so a run from plain lines, with nothing to be undone, is the run from these lines with such letters on them
abbrev pub StartsMayBeMarked : Type 0
StartsMayBeMarked = (marks : Marks) (xs : List Step) (bad : Option ℕ) (text : List (List ℕ)) (m : Present) (answers : List Answer) →
    IsFalse (steps_name (letters_of marks) xs) → m.state.lines ≡ map plain_line text → m.state.past ≡ Nothing →
    m.state.global ≡ None →
    steps xs bad (with_state (record m.state { lines = marked marks (map plain_line text) }) m) answers ≡ steps xs bad m answers

-- such lines have the bytes that they had, are well marked, have no flag, and hold no newline where they held none
abbrev pub MarkedLinesAreWell : Type 0
MarkedLinesAreWell = (marks : Marks) (text : List (List ℕ)) → let lines = marked marks (map plain_line text) in
    (texts lines ≡ text) × WellMarked lines × (unflagged lines ≡ lines) × (AreWhole (map plain_line text) → AreWhole lines)

-- each mark is where it was set, if no letter is there twice
abbrev pub MarksStand : Type 0
MarksStand = (marks : Marks) (lines : List Line) → KnowLetters lines → AreApart marks →
    All (λ mark. (mark.0 < 26) × (mark.1 < length lines)) marks →
    All (λ mark. marked_place mark.0 (marked marks lines) ≡ Some mark.1) marks
