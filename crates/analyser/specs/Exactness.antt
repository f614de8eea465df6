-- No false alarm on exact scripts. Over a known number of lines such a script is vouched for just where its run meets no fault, and the
-- certificate then tells just how many lines that run leaves. Where the run ends by a fault, the answer tells that fault and its place.
use Rattle.std.specs.Prelude.{◌≡◌, ◌≤◌, ◌⊎◌, ℕ, suc, false, List, [], ◌∷◌, ◌++◌, length, take, drop, Option, Some, None, option_map, Ok, Err, IsTrue, All}
use Rattle.ed_base.specs.declared.fault.Fault.{Fault}
use Rattle.ed_syntax.specs.declared.options.Options.{Options}
use Rattle.ed_syntax.specs.declared.options.Ending.{Ending}
use Rattle.ed_syntax.specs.declared.request.Answer.{Answer}
use Rattle.ed_syntax.specs.declared.request.Answer.TheVariants as answer
use Rattle.ed_syntax.specs.Commands as ed
use Rattle.ed_syntax.specs.Commands.{Step, Script, Without, alone}
use Rattle.ed_syntax.specs.meaning.Progress.{Stop, Ends, stop_of}
use Rattle.ed_syntax.specs.meaning.Runs.{run}
use Rattle.ed_rules.specs.Exact.{are_exact}
use Rattle.ed_rules.specs.LineBounds.{most_lines}
use Rattle.cert_check.specs.declared.checker.verdict.Place.{Place}
use Rattle.cert_check.specs.checker.Sound.{start_lines}
use Rattle.analyser.specs.declared.analysis.Start.{Start}
use Rattle.analyser.specs.declared.analysis.Analysis.{Analysis}
use Rattle.analyser.specs.declared.analysis.Analysis.TheVariants.{Vouched, Cannot}
use Rattle.analyser.specs.Following.{chains_of_start}

-- the answers to what the commands ask: all after the start file's, where there is a path
abbrev pub to_commands : (path : Option (List ℕ)) → List Answer → List Answer
to_commands None answers = answers
to_commands (Some path) answers = drop 1 answers

-- a `Q`, which ends a run whether its buffer is saved or not
abbrev pub quit_anyway : Step
quit_anyway = alone (record { addresses = Without; verb = ed.QuitAnyway; suffix = None; listed = false })

-- the script up to its k-th command and then a `Q`: the end of its run tells the number of lines there
abbrev pub up_to : (k : ℕ) → Script → Script
up_to k script = record { steps = take k script.steps ++ quit_anyway ∷ []; fault = None }

-- A run of an exact script: it starts with the one number of lines that the analyser was given, each write is done, and after no command
-- are there more lines than a certificate tells of. It has an answer for each command, since with fewer it may only wait for one. No
-- landmark counts: what landmarks say of a file without them is so of no file, and by that `9p` is vouched for over three lines of which the
-- ninth is a landmark. Where a file has them, the law on exact commands says nothing: it speaks of states in which no letter is sure.
pub record IsExactRun (script : Script) (start : Start) (o : Options) (answers : List Answer) : Type 0 where
  pub exact : IsTrue (are_exact script.steps)
  pub path : o.path ≡ start.path
  pub lines : option_map length (start_lines start.path answers) ≡ Some start.min
  pub one : start.max ≡ Some start.min
  pub unmarked : chains_of_start script start ≡ []
  pub done : All (λ (a : Answer). a ≡ answer.Done) (to_commands start.path answers)
  pub enough : length script.steps ≤ length (to_commands start.path answers)
  pub few : (k : ℕ) (e : Ending) → stop_of (run (up_to k script) o answers) ≡ Ends (Ok e) → e.lines ≤ most_lines

-- A run meets its fault at this place. The commands before it go well: with a `Q` after them, the run ends without a fault. The run up to
-- the command at the place ends by the fault; or all commands go well, and the place is the end. An exact script has no lists, so a place
-- is never one in a list.
pub record FailsAt (script : Script) (o : Options) (answers : List Answer) (place : Place) (why : Fault) : Type 0 where
  pub before : ℕ
  pub number : place ≡ record { command = suc before; inner = None }
  pub left : Ending
  pub well : stop_of (run (up_to before script) o answers) ≡ Ends (Ok left)
  pub fails : (stop_of (run (up_to (suc before) script) o answers) ≡ Ends (Err why)) ⊎ (before ≡ length script.steps)

-- A run that ends without a fault was vouched for, with just as many lines as it leaves; of one that ends by a fault, that fault was told,
-- and its place.
abbrev pub Foretells : Script → Options → List Answer → Analysis → Stop → Type 0
Foretells script o answers (Vouched c) (Ends (Ok e)) = (c.low ≡ e.lines) × (c.high ≡ Some e.lines)
Foretells script o answers (Cannot place why notes) (Ends (Err f)) = (why ≡ f) × FailsAt script o answers place why
Foretells script o answers _ _ = ⊥

-- the answer foretells each run of an exact script
abbrev pub IsExactAnswer : Script → Start → Analysis → Type 0
IsExactAnswer script start answer = (o : Options) (answers : List Answer) →
    IsExactRun script start o answers → Foretells script o answers answer (stop_of (run script o answers))
