-- What a session has still to carry out, and how it goes on with it.
use Rattle.std.specs.Prelude.{ℕ, ◌<◌, ◌≤◌, ◌-◌, List, [], ◌∷◌, length, drop, Option, Some, None, option_map}
use Rattle.ed_syntax.specs.Commands.{Command, Step}
use Rattle.ed_syntax.specs.PublicTypes.{steps_value}
use Rattle.ed_syntax.specs.declared.command.Command as rust
use Rattle.ed_session.specs.declared.agenda.Countdown as counted
use Rattle.ed_session.specs.Sessions.{RunningList}

-- what is left of a global command that is open, and then of the script
pub record AgendaValue : Type 0 where
  pub running_list : Option RunningList
  pub steps : List Step

-- the list of the first step
abbrev pub first_list : List Step → List Command
first_list [] = []
first_list (x ∷ steps) = x.list

-- the list of the global command at this place
abbrev pub list_at : List rust.Command → (place : ℕ) → List Command
list_at commands place = first_list (steps_value (drop place commands))

-- the last commands of a list, so many as there are
abbrev pub last_of : ℕ → List Command → List Command
last_of n list = drop (length list - n) list

-- what is left of the global command that is open
abbrev pub running_at : List rust.Command → counted.Countdown → RunningList
running_at commands t = let list = list_at commands t.global in record { left = last_of t.left list; list = list; lines = t.lines }

-- the same, if one is
abbrev pub running_of : List rust.Command → Option counted.Countdown → Option RunningList
running_of commands running = option_map (running_at commands) running

-- the global command is one of these, and no more of its list is left than there is
abbrev pub IsWithin : List rust.Command → Option counted.Countdown → Type 0
IsWithin commands None = Unit {0}
IsWithin commands (Some t) = (t.global < length commands) × (t.left ≤ length (list_at commands t.global))

-- the first of the commands that are left in a list
abbrev pub first_listed : List Command → Option Command
first_listed [] = None
first_listed (c ∷ left) = Some c

-- the command of the first step
abbrev pub first_command : List Step → Option Command
first_command [] = None
first_command (x ∷ steps) = Some x.command

-- the next command: in a global command that of its list
abbrev pub next_command : Option RunningList → List Step → Option Command
next_command None steps = first_command steps
next_command (Some t) steps = first_listed t.left

-- what is left of an open global command after the next command
abbrev pub running_after : Option RunningList → Option RunningList
running_after None = None
running_after (Some t) = Some (record t { left = drop 1 t.left })

-- what is left of the script after it
abbrev pub steps_after : Option RunningList → List Step → List Step
steps_after None steps = drop 1 steps
steps_after (Some t) steps = steps

-- the next command is done
abbrev pub passed : AgendaValue → AgendaValue
passed a = record { running_list = running_after a.running_list; steps = steps_after a.running_list a.steps }

-- the first step is a global command, which is open for at most so many lines; none was taken yet
abbrev pub opened_for : (lines : ℕ) → AgendaValue → AgendaValue
opened_for lines a = record { running_list = Some (record { left = []; list = first_list a.steps; lines = lines }); steps = drop 1 a.steps }

-- for how many lines more the list is run at most
abbrev pub lines_of : Option RunningList → ℕ
lines_of None = 0
lines_of (Some t) = t.lines

-- the list from its beginning, for a line that was taken
abbrev pub list_again : RunningList → RunningList
list_again t = record { left = t.list; list = t.list; lines = t.lines - 1 }

-- the list is run for one line more
abbrev pub repeated : AgendaValue → AgendaValue
repeated a = record a { running_list = option_map list_again a.running_list }
