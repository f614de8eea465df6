-- The status that the program ends with, whatever its words, its script and its certificate are, and whatever the files answer (our
-- choice; where memory ran out or an input isn't read, it is that of the editor's fault).
use Rattle.std.specs.Prelude.{◌≡◌, ◌≢◌, ◌⊎◌, ℕ, ◌^◌, Bool, true, false, ◌&&◌, List, [], Option, None, Some, is_none, if◌then◌else◌, IsTrue, IsFalse}
use Rattle.ed_base.specs.Fault.{status_of}
use Rattle.ed_base.specs.declared.fault.Fault.TheVariants as fault
use Rattle.ed_syntax.specs.declared.options.Options.{Options}
use Rattle.ed_session.specs.Drives.{Log}
use Rattle.ed_session.specs.Sinks.{SinkChange}
use Rattle.rehearsal.specs.Held.{writes_of}
use Rattle.sources.specs.declared.source.ReadFault.{ReadFault}
use Rattle.ed_calls.specs.declared.starts.Starts.{Starts}
use Rattle.ed_calls.specs.Check.{Checks}
use Rattle.ed_calls.specs.Edit.{Correct}
use Rattle.ed_calls.specs.Explains.{Explains, ExplainsBy}
use Rattle.ed_calls.specs.Fits.{Fits}
use Rattle.ed_calls.specs.Headline.{MayFail}
use Rattle.ed_calls.specs.HeldBack.{HeldBack}
use Rattle.ed_calls.specs.Rehearsed.{Rehearsed}
use Rattle.ed_calls.specs.Run.{Runs}
use Rattle.ed_calls.specs.Starts.{AreAllowed}
use Rattle.ed_calls.specs.Told.{Says}
use Rattle.ed_calls.specs.Vouch.{Vouches}
use Rattle.ed_calls.specs.Vouched.{RunsVouched}
use Rattle.ed_main.specs.declared.job.Job.{Job}
use Rattle.ed_main.specs.declared.job.Job.TheVariants as job
use Rattle.ed_main.specs.declared.task.Task.{Task}
use Rattle.ed_main.specs.declared.task.Trust.{Trust}
use Rattle.ed_main.specs.declared.task.Trust.TheVariants as trust
use Rattle.ed_main.specs.declared.words.WordsFault.{WordsFault}
use Rattle.ed_main.specs.declared.words.WordsFault.TheVariants as words
use Rattle.ed_main.specs.declared.writing.Writing.{Writing}
use Rattle.ed_main.specs.declared.writing.Writing.TheVariants as writing
use Rattle.ed_main.specs.Job.{IsGiven}
use Rattle.ed_main.specs.Letters.{WithLetters}
use Rattle.ed_main.specs.Meant.{IsMistaken, is_empty_for_script}
use Rattle.ed_main.specs.Several.{Judges, names_none, status_of_unread}
use Rattle.ed_main.specs.Wanted.{WithFile, WithStarts}

-- how many bytes of a script, and of a certificate, are read at most
abbrev pub most_bytes : ℕ
most_bytes = 2 ^ 30

-- a job wants a script before it is begun: each does but the test of a start, and the judging of scripts in files
abbrev pub wants_script : Job → Bool
wants_script (job.Edit options script writes vouched) = true
wants_script (job.Vouch wanted script all) = true
wants_script (job.Judge wanted scripts detail) = names_none scripts
wants_script (job.Explain wanted script) = true
wants_script (job.ExplainBy certificate script) = true
wants_script (job.Check certificate script) = true
wants_script (job.Run certificate options script writes) = true
wants_script (job.Fits certificate path) = false

-- the file that is named for a job's script, if one is
abbrev pub script_named : Job → Option (List ℕ)
script_named (job.Edit options script writes vouched) = script
script_named (job.Vouch wanted script all) = script
script_named (job.Judge wanted scripts detail) = None
script_named (job.Explain wanted script) = script
script_named (job.ExplainBy certificate script) = script
script_named (job.Check certificate script) = script
script_named (job.Run certificate options script writes) = script
script_named (job.Fits certificate path) = None

-- a job wants standard input: it wants a script, and no file is named for it
abbrev pub wants_input : Job → Bool
wants_input asked = wants_script asked && is_none (script_named asked)

-- Words that aren't understood have a status of their own. A request for help or the version is no fault; it can fail to be shown.
abbrev pub EndsWords : WordsFault → ℕ → Type 0
EndsWords (words.Usage text) status = status ≡ 4
EndsWords (words.Asked text) status = (status ≡ 0) ⊎ (status ≡ status_of fault.Output)
EndsWords words.Memory status = status ≡ status_of fault.Memory

-- What a job met: what it asked the files and was answered, the counts of their refusals before and after it, and the output.
pub record Met : Type 0 where
  pub log : Log
  pub refusals_before : ℕ
  pub refusals : ℕ
  pub sink : SinkChange

-- a job came to this with whatever it met
abbrev pub Somehow : (Met → ℕ → Type 0) → ℕ → Type 0
Somehow Came status = (met : Met) × Came met status

-- what `edit` came to with what it met, for a script of these bytes
abbrev pub Edits : (script : List ℕ) → Options → Met → ℕ → Type 0
Edits script options met status = Correct script options met.log met.refusals_before met.refusals met.sink status

-- what `edit --vouched` came to with what it met, for a script of these bytes that is judged over this start
abbrev pub EditsVouched : Starts → (script : List ℕ) → Options → Met → ℕ → Type 0
EditsVouched starts script options met status =
    RunsVouched script starts options met.log (MayFail options.path met.log met.refusals_before met.refusals met.sink) met.sink status

-- what `run` came to with what it met, for a script and a certificate of these bytes
abbrev pub RunsOn : (script certificate : List ℕ) → Options → Met → ℕ → Type 0
RunsOn script certificate options met status =
    Runs script certificate options met.log (MayFail options.path met.log met.refusals_before met.refusals met.sink) met.sink status

-- a script that is only run if it is vouched for may be judged over the start that is asked for
abbrev pub IsTrusted : Trust → Type 0
IsTrusted (trust.Vouched starts) = AreAllowed starts
IsTrusted other = Unit {0}

-- what a script came to with what it met, by what its run rests on
abbrev pub ComesBy : Trust → (script : List ℕ) → Options → Met → ℕ → Type 0
ComesBy trust.Unchecked script = Edits script
ComesBy (trust.Certified name certificate) script = RunsOn script certificate.now
ComesBy (trust.Vouched starts) script = EditsVouched starts script

-- the status of a rehearsal whose run came to one by itself: that of a file that is refused, where one of its writes is hindered or can't be shown
abbrev pub status_ahead : (ran : ℕ) → (is_hindered : Bool) → ℕ
status_ahead ran is_hindered = if is_hindered then status_of fault.File else ran

-- a run came to one status by itself, and its rehearsal to another only where it would have written something
pub record EndsRehearsed (log : Log) (ran status : ℕ) : Type 0 where
  pub is_hindered : Bool
  pub some : IsTrue is_hindered → writes_of log ≢ []
  pub status_is : status ≡ status_ahead ran is_hindered
  pub rehearsed : Rehearsed log

-- how the writes of a run were made that came to one status by itself, and the program's status then: each was made when it was asked for;
-- or they were held back until the run had ended; or nothing was written
abbrev pub AreMade : Writing → Log → (ran status : ℕ) → Type 0
AreMade (writing.AtOnce spares) log ran status = status ≡ ran
AreMade (writing.AtTheEnd suffix) log ran status = HeldBack log ran status
AreMade (writing.Never whole spares shows suffix) log ran status = EndsRehearsed log ran status

-- a run came to this with what it met, and its writes were made so
abbrev pub Writes : Writing → (Met → ℕ → Type 0) → Met → ℕ → Type 0
Writes writes Came met status = (ran : ℕ) × (Came met ran × AreMade writes met.log ran status)

-- what the run of a task came to by itself, with this log
abbrev pub Ran : Task → Log → ℕ → Type 0
Ran task log status = (met : Met) × ((met.log ≡ log) × ComesBy task.trust task.script.now task.options met status)

-- what a task came to with what it met, whose writes were made so
abbrev pub Comes : Writing → Task → Met → ℕ → Type 0
Comes writes task = Writes writes (ComesBy task.trust task.script.now task.options)

-- what a job comes to, for a script of these bytes; a test of a start has none, and scripts in files are read as they are judged
abbrev pub Does : List ℕ → Job → ℕ → Type 0
Does script (job.Edit options named writes None) = Somehow (Writes writes (Edits script options))
Does script (job.Edit options named writes (Some wanted)) =
    WithStarts wanted (λ starts. WithLetters script starts (Somehow (Writes writes (EditsVouched starts script options))))
Does script (job.Vouch wanted named all) =
    WithStarts wanted (λ starts. WithLetters script starts (Somehow (λ met. Says (Vouches script starts) met.sink)))
Does script (job.Judge wanted scripts detail) = WithStarts wanted (λ starts. Judges script starts scripts)
Does script (job.Explain wanted named) =
    WithStarts wanted (λ starts. WithLetters script starts (Somehow (λ met. Says (Explains script starts) met.sink)))
Does script (job.ExplainBy path named) = WithFile (λ certificate. Somehow (λ met. Says (ExplainsBy script certificate) met.sink))
Does script (job.Check path named) = WithFile (λ certificate. Somehow (λ met. Says (Checks script certificate) met.sink))
Does script (job.Run path options named writes) = WithFile (λ certificate. Somehow (Writes writes (RunsOn script certificate options)))
Does script (job.Fits certificate path) = WithFile (λ bytes. Somehow (λ met. Fits bytes path met.log met.sink))

-- What a job comes to, for a script of these bytes: an empty one is refused where its file is named like a script, and where what is read of
-- that file looks like one.
pub data DoesIfMeant (script : List ℕ) (asked : Job) (status : ℕ) : Type 0 where
  mistaken : script ≡ [] → IsMistaken asked → status ≡ 4 → DoesIfMeant script asked status
  meant : IsFalse (is_empty_for_script script asked) → Does script asked status → DoesIfMeant script asked status

-- The words weren't understood; or the script wasn't read for a job that wants one; or a job was done for a script, unless that was mistaken.
pub data IsEnding (status : ℕ) : Type 0 where
  refused : (fault : WordsFault) → EndsWords fault status → IsEnding status
  unread : (asked : Job) → IsGiven asked → IsTrue (wants_script asked) → (fault : ReadFault) → status ≡ status_of_unread fault → IsEnding status
  did : (script : List ℕ) (asked : Job) → IsGiven asked → DoesIfMeant script asked status → IsEnding status
