-- How much a session may still do: the measure by which driving it ends.
use Rattle.std.specs.Prelude.{ℕ, ◌+◌, ◌*◌, ◌^◌, ◌<◌, List, [], ◌∷◌, length, Option, Some, None}
use Rattle.ed_syntax.specs.Commands.{Step}
use Rattle.ed_session.specs.declared.session.Ask.{Ask}
use Rattle.ed_session.specs.declared.session.Ask.TheVariants as ask
use Rattle.ed_session.specs.declared.phase.Phase.{Phase}
use Rattle.ed_session.specs.declared.phase.Phase.TheVariants as phases
use Rattle.ed_session.specs.Sessions.{SessionValue, RunningList}

-- what a phase still has to do
abbrev pub phase_work : Phase → ℕ
phase_work (phases.Fresh path) = 5
phase_work phases.Between = 4
phase_work phases.Prompted = 2
phase_work phases.Waiting = 1
phase_work (phases.Over result) = 0

-- output is handed out in one step
abbrev pub pending_work : List ℕ → ℕ
pending_work [] = 0
pending_work (byte ∷ bytes) = 1

-- a list of so many commands for so many lines: its commands, and that a line is taken
unfoldable pub lines_work : (lines commands : ℕ) → ℕ
lines_work lines commands = lines * (1 + commands)

-- in a global command that is open: the commands for this line, the lines that are left, and the end
abbrev pub running_work : Option RunningList → ℕ
running_work None = 0
running_work (Some t) = length t.left + lines_work t.lines (length t.list) + 1

-- a step of the script: its command and its list, for as many lines as a machine can count, and the end of that
unfoldable pub step_work : Step → ℕ
step_work x = 2 + lines_work (2 ^ 64) (length x.list)

-- the steps that are left
abbrev pub steps_work : List Step → ℕ
steps_work [] = 0
steps_work (x ∷ steps) = step_work x + steps_work steps

-- At most so many calls of `step` still come. One does silent commands by itself, so commands are counted and not what they
-- do. Between two commands a prompt may come, and after it a command's output.
abbrev pub work : SessionValue → ℕ
work v = phase_work v.phase + 4 * (running_work v.running_list + steps_work v.steps) + pending_work v.pending

-- a step that isn't the last leaves less to do
abbrev pub Works : SessionValue → Ask → SessionValue → Type 0
Works old (ask.Ended result) new = Unit {0}
Works old asks new = work new < work old
