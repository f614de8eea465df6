-- What an editor holds (XCU ed, "Extended Description").
use Rattle.std.specs.Prelude.{ℕ, Bool, true, false, List, [], map, length, Option, None}
use Rattle.ed_base.specs.Buffer.{Line, with_flag}
use Rattle.ed_syntax.specs.declared.replacement.Part.{Part}

-- what undo keeps of the buffer: its lines with their marks, and the current line
pub record Kept : Type 0 where
  pub lines : List Line
  pub current : ℕ

-- what undo would bring back: nothing, the buffer as it is, or an earlier one
pub data Past : Type 0 where
  Nothing : Past
  Same : Past
  Was : Kept → Past

-- a global command whose list is run: the buffer before it, and whether a command of the list changed it
pub record Open : Type 0 where
  pub before : Kept
  pub altered : Bool

-- What an editor holds. Lines count from 1; the current line may be 0. A remembered pattern is its text.
pub record State : Type 0 where
  pub lines : List Line
  pub current : ℕ
  pub pattern : Option (List ℕ)
  pub replacement : Option (List Part)
  pub name : Option (List ℕ)
  pub changed : Bool
  pub past : Past
  pub global : Option Open

-- an editor that was just opened: no lines, and nothing remembered
abbrev pub opening : State
opening = record { lines = []; current = 0; pattern = None; replacement = None; name = None; changed = false; past = Nothing; global = None }

-- the last line's number
abbrev pub last : State → ℕ
last s = length s.lines

-- lines without the flags that a global command gave them
abbrev pub unflagged : List Line → List Line
unflagged lines = map (with_flag false) lines

-- the buffer as undo keeps it
abbrev pub kept : State → Kept
kept s = record { lines = unflagged s.lines; current = s.current }

-- a change was made by the list of a global command
abbrev pub noted : Open → Open
noted g = record g { altered = true }
