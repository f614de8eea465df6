-- What holds of every command: what it keeps of the lines, of undo, and of a global command that is open.
use Rattle.std.specs.Prelude.{◌≡◌, ◌≤◌, ◌+◌, ◌⊎◌, true, ℕ, List, map, All, Option, Some, None, option_map, Ok, IfOk, IsTrue}
use Rattle.ed_base.specs.Buffer.{Line, plain_line, KnowLetters, AtMostOnce}
use Rattle.ed_base.specs.Lines.{IsLine, lines_of}
use Rattle.ed_syntax.specs.declared.request.Answer.{Answer}
use Rattle.ed_syntax.specs.declared.verbs.Taking.{Taking}
use Rattle.ed_syntax.specs.Commands.{Address, Addresses, Verb, Command}
use Rattle.ed_syntax.specs.meaning.Verbs.{may_alter, is_listed}
use Rattle.ed_syntax.specs.meaning.States.{State, Past, Nothing, Same, Was, Open, unflagged, noted}
use Rattle.ed_syntax.specs.meaning.Values.{values}
use Rattle.ed_syntax.specs.meaning.Ranges.{Span, spanned}
use Rattle.ed_syntax.specs.spelling.Readable.{enters_lines}
use Rattle.ed_syntax.specs.meaning.Effects.{Outcome, Makes}
use Rattle.ed_syntax.specs.meaning.Globals.{flags}
use Rattle.ed_syntax.specs.meaning.Applied.{targeted, placed, command}

-- all but the current line and the remembered pattern is as before
abbrev pub KeepsTheRest : (before after : State) → Type 0
KeepsTheRest before after = record after { current = before.current; pattern = before.pattern } ≡ before

-- the first line of a span isn't after its last, or the span has no line
abbrev pub InOrder : Span → Type 0
InOrder x = x.first ≤ x.last + 1

-- addresses change the current line and the remembered pattern alone
abbrev pub AddressesKeepTheRest : Type 0
AddressesKeepTheRest = (a : Addresses) (s : State) → IfOk (values a s) (λ v. KeepsTheRest s v.0)

-- and so does a target
abbrev pub TargetsKeepTheRest : Type 0
TargetsKeepTheRest = (a : Option Address) (s : State) → IfOk (targeted a s) (λ t. KeepsTheRest s t.0)

-- the lines that a command is applied to are in order
abbrev pub SpansAreInOrder : Type 0
SpansAreInOrder = (t : Taking) (last : ℕ) (values : List ℕ) → IfOk (spanned t last values) InOrder

-- before its effect a command has changed the current line and the remembered pattern alone, and its lines are in order
abbrev pub CommandsArePlaced : Type 0
CommandsArePlaced = (c : Command) (s : State) → IfOk (placed c s) (λ p. KeepsTheRest s p.state × InOrder p.span)

-- a command of a list leaves what undo keeps as it is: the end of the global sets it
abbrev pub ListsLeaveUndo : Type 0
ListsLeaveUndo = (s : State) (c : Command) (given : Option Answer) (o : Outcome) → command s c given ≡ Ok (Makes o) →
    IsTrue (is_listed c) → o.state.past ≡ s.past

-- and it gives no line the flag, so that a global command comes to its end
abbrev pub ListsAddNoFlags : Type 0
ListsAddNoFlags = (s : State) (c : Command) (given : Option Answer) (o : Outcome) → command s c given ≡ Ok (Makes o) →
    IsTrue (is_listed c) → flags o.state ≤ flags s

-- what a global command that is open knows after a command of its list: what it knew, or also that the buffer was changed
abbrev pub Notes : Verb → (before after : Option Open) → Type 0
Notes verb before after = (after ≡ before) ⊎ ((may_alter verb ≡ true) × (after ≡ option_map noted before))

-- only a command that may change the buffer makes it know of a change
abbrev pub ListsNoteChanges : Type 0
ListsNoteChanges = (s : State) (c : Command) (given : Option Answer) (o : Outcome) → command s c given ≡ Ok (Makes o) →
    IsTrue (is_listed c) → Notes c.verb s.global o.state.global

-- of each line it is known of all letters whether they mark it, and each letter marks at most one line
pub record WellMarked (lines : List Line) : Type 0 where
  pub known : KnowLetters lines
  pub once : AtMostOnce lines

-- no line holds a newline
abbrev pub AreWhole : List Line → Type 0
AreWhole lines = All (λ line. IsLine line.bytes) lines

-- a property holds of the lines that undo would bring back, if it would bring back any
abbrev pub OfPast : (List Line → Type 0) → Past → Type 0
OfPast P Nothing = Unit {0}
OfPast P Same = Unit {0}
OfPast P (Was before) = P before.lines

-- it holds of the buffer, and of the lines that undo would bring back
pub record OfLines (P : List Line → Type 0) (s : State) : Type 0 where
  pub buffer : P s.lines
  pub past : OfPast P s.past

-- it holds of the buffer as it was before a global command that is open
abbrev pub OfOpen : (List Line → Type 0) → Option Open → Type 0
OfOpen P None = Unit {0}
OfOpen P (Some g) = P g.before.lines

-- where the lines are well marked, they are so after a command
abbrev pub CommandsKeepMarks : Type 0
CommandsKeepMarks = (s : State) (c : Command) (given : Option Answer) (o : Outcome) → command s c given ≡ Ok (Makes o) →
    OfLines WellMarked s → OfLines WellMarked o.state

-- and so are those from before a global command that is open, which undo has once that is over
abbrev pub OpenKeepsMarks : Type 0
OpenKeepsMarks = (s : State) (c : Command) (given : Option Answer) (o : Outcome) → command s c given ≡ Ok (Makes o) →
    OfOpen WellMarked s.global → OfOpen WellMarked o.state.global

-- where no line holds a newline, none does after a command, if what it enters are lines
abbrev pub CommandsKeepLines : Type 0
CommandsKeepLines = (s : State) (c : Command) (given : Option Answer) (o : Outcome) → command s c given ≡ Ok (Makes o) →
    IsTrue (enters_lines c.verb) → OfLines AreWhole s → OfLines AreWhole o.state

-- the lines of a file are well marked
abbrev pub FilesAreWellMarked : Type 0
FilesAreWellMarked = (bytes : List ℕ) → WellMarked (map plain_line (lines_of bytes))

-- and none of them holds a newline
abbrev pub FilesAreWhole : Type 0
FilesAreWhole = (bytes : List ℕ) → AreWhole (map plain_line (lines_of bytes))

-- lines that differ from others in their flags alone are as well marked
abbrev pub FlagsMarkNothing : Type 0
FlagsMarkNothing = (lines others : List Line) → unflagged lines ≡ unflagged others → WellMarked lines → WellMarked others

-- and hold no newline where those hold none
abbrev pub FlagsAreNoBytes : Type 0
FlagsAreNoBytes = (lines others : List Line) → unflagged lines ≡ unflagged others → AreWhole lines → AreWhole others
