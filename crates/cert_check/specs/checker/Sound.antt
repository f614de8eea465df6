-- The soundness of the checker: a script that is accepted can't fail, whatever the files hold.
use Rattle.std.specs.Prelude.{◌≡◌, ℕ, List, [], ◌∷◌, length, Option, Some, None, IfSome, IsTrue, Ok, Err}
use Rattle.std.specs.List.{All, Contains}
use Rattle.ed_base.specs.Lines.{lines_of}
use Rattle.ed_base.specs.declared.fault.Fault.TheVariants as fault
use Rattle.ed_syntax.specs.declared.options.Options.{Options}
use Rattle.ed_syntax.specs.declared.request.Answer.{Answer}
use Rattle.ed_syntax.specs.declared.request.Answer.TheVariants as answer
use Rattle.ed_syntax.specs.declared.request.Request.{Request}
use Rattle.ed_syntax.specs.declared.request.Request.TheVariants as request
use Rattle.ed_syntax.specs.Commands.{Step, Script}
use Rattle.ed_syntax.specs.meaning.States as editor
use Rattle.ed_syntax.specs.meaning.Progress.{Present, Progress, Stop, Waits, Ends, asked_of, stop_of}
use Rattle.ed_syntax.specs.meaning.Runs.{Further, step, run}
use Rattle.ed_syntax.specs.meaning.Verbs.{is_global, is_step}
use Rattle.ed_rules.specs.declared.state.State.{State}
use Rattle.ed_rules.specs.GlobalSoundness.{HasNoFlags}
use Rattle.ed_rules.specs.LineBounds.{IsWithin}
use Rattle.ed_rules.specs.StandsFor.{StandsFor}
use Rattle.landmarks.specs.declared.landmark.Landmark.{Landmark}
use Rattle.landmarks.specs.Starts.{AreEachAt}
use Rattle.cert_check.specs.declared.certificate.Version.{Version}
use Rattle.cert_check.specs.declared.certificate.Version.TheVariants as version
use Rattle.cert_check.specs.declared.checker.verdict.Verdict.TheVariants.{Accepted}
use Rattle.cert_check.specs.declared.sight.Sight.{Sight}
use Rattle.cert_check.specs.Certificates.{Note, Certificate}
use Rattle.cert_check.specs.checker.Beginning.{chains_of}
use Rattle.cert_check.specs.checker.Opening.{Match}
use Rattle.cert_check.specs.checker.Valid.{Check, verdict_of, left_after, step_checks, fits}

-- the lines of the start, where there is one: without a path, or where its file is missing, there are none
abbrev pub start_lines : (path : Option (List ℕ)) → List Answer → Option (List (List ℕ))
start_lines None answers = Some []
start_lines (Some path) (answer.Bytes bytes ∷ later) = Some (lines_of bytes)
start_lines (Some path) (answer.Missing ∷ later) = Some []
start_lines (Some path) _ = None

-- the patterns that a certificate states of its start; in version 1 there are none
abbrev pub stated : Certificate → List (List ℕ)
stated c = elim c.version [ version.One ↦ [] | version.Two ↦ c.has | version.Three ↦ c.has ]

-- the landmarks of each of these chains are where they say
abbrev pub HaveLandmarks : (lines : List (List ℕ)) → List (List Landmark) → Type 0
HaveLandmarks lines chains = (places : List ℕ) × AreEachAt lines chains places

-- A start that a certificate allows: its number of lines lies within the bounds, each pattern that is stated is matched by one of them, and
-- the landmarks that are stated, of which versions 1 and 2 have none, are in it.
abbrev pub IsAllowed : Certificate → (lines : List (List ℕ)) → Type 0
IsAllowed c lines = IsWithin c.min c.max (length lines) × Match (stated c) lines × HaveLandmarks lines (chains_of c)

-- any file may be read, and a listed one written
abbrev pub MayAsk : Certificate → Request → Type 0
MayAsk c (request.Read path) = Unit {0}
MayAsk c (request.Write path bytes) = Contains c.writes path

-- the run waits, or ends with a number of lines that the certificate allows, or by a file that was refused
abbrev pub StopsWell : Certificate → Stop → Type 0
StopsWell c (Waits r) = MayAsk c r
StopsWell c (Ends (Ok ending)) = IsWithin c.low c.high ending.lines
StopsWell c (Ends (Err f)) = f ≡ fault.File

-- a run, or what is left of one, stops well, and asks for nothing else
abbrev pub RunsWell : Certificate → Progress → Type 0
RunsWell c p = All (MayAsk c) (asked_of p) × StopsWell c (stop_of p)

-- In versions 2 and 3 no line has the flag of a global command when a step begins, as is so in each run: by its flag it is known of a line that
-- `g` took it, so that it matches its pattern.
abbrev pub IsUnflagged : Version → editor.State → Type 0
IsUnflagged version.One e = Unit {0}
IsUnflagged version.Two e = HasNoFlags e
IsUnflagged version.Three e = HasNoFlags e

-- what a run goes on with runs well from each editor that a state stands for
abbrev pub GoesWell : Certificate → Sight → State → Further → Type 0
GoesWell c w s go = (m : Present) → StandsFor s m.state → IsUnflagged w.version m.state → (answers : List Answer) → RunsWell c (go m answers)

-- One global command, with its list, whatever comes after it: all its checks hold, of a state that comes in. Then from each editor
-- that this state stands for its run stops well, or goes on with an editor that the state after it stands for (what the version tells of
-- `loop_end` of what is known before it and after its last line): it runs well with all that goes well from there.
abbrev pub GlobalGoesWell : Type 0
GlobalGoesWell = (w : Sight) (c : Certificate) (number : ℕ) (x : Step) (n : Note) (coming : State) (later : List Check) (go : Further) →
    IsTrue (is_step x) → IsTrue (is_global x.command.verb) → IsTrue (fits x n) → verdict_of (step_checks w number c.writes x n coming later) ≡ Accepted →
    GoesWell c w (left_after w n.looped x n.state) go → GoesWell c w coming (λ m. step x m go)

-- each run with the certificate's path, over each start that it allows, stops well, and asks for nothing else
abbrev pub CannotFail : Script → Certificate → Type 0
CannotFail script c = (o : Options) (answers : List Answer) → o.path ≡ c.path → IfSome (start_lines c.path answers) (IsAllowed c) → RunsWell c (run script o answers)

-- the same over each start whose number of lines lies in its bounds, as a certificate of version 1 promises
abbrev pub CannotFailInBounds : Script → Certificate → Type 0
CannotFailInBounds script c = (o : Options) (answers : List Answer) → o.path ≡ c.path → IfSome (start_lines c.path answers) (λ lines. IsWithin c.min c.max (length lines)) →
    RunsWell c (run script o answers)
