-- What is asked of the outside, and how runs end.
use Rattle.std.specs.Prelude.{◌≡◌, Bool, true, false, ℕ, List, [], ◌∷◌, Option, Some, None, Ok, Err, IsFalse}
use Rattle.ed_base.specs.declared.fault.Fault.{Fault}
use Rattle.ed_base.specs.declared.fault.Fault.TheVariants as fault
use Rattle.ed_syntax.specs.declared.request.Answer.{Answer}
use Rattle.ed_syntax.specs.declared.request.Answer.TheVariants as answer
use Rattle.ed_syntax.specs.declared.request.Request.{Request}
use Rattle.ed_syntax.specs.declared.request.Request.TheVariants as request
use Rattle.ed_syntax.specs.declared.options.Options.{Options}
use Rattle.ed_syntax.specs.Commands as ed
use Rattle.ed_syntax.specs.Commands.{Command, Script}
use Rattle.ed_syntax.specs.meaning.States.{State}
use Rattle.ed_syntax.specs.meaning.Effects.{Asks}
use Rattle.ed_syntax.specs.meaning.Files.{used_path}
use Rattle.ed_syntax.specs.meaning.Applied.{command}
use Rattle.ed_syntax.specs.meaning.Progress.{Ends, asked_of, stop_of}
use Rattle.ed_syntax.specs.meaning.Runs.{run}

-- no run ends by this fault
abbrev pub NeverEndsBy : Fault → Type 0
NeverEndsBy f = (script : Script) (o : Options) (answers : List Answer) → stop_of (run script o answers) ≡ Ends (Err f) → ⊥

-- an answer serves a request: the bytes of a file to be read, or that a file was written
abbrev pub serves : Request → Answer → Bool
serves (request.Read path) (answer.Bytes bytes) = true
serves (request.Write path bytes) answer.Done = true
serves r a = false

-- an answer that isn't asked for isn't looked at
abbrev pub UnaskedAnswersDoNothing : Type 0
UnaskedAnswersDoNothing = (s : State) (c : Command) (a : Answer) → ((r : Request) → command s c None ≡ Ok (Asks r) → ⊥) → command s c (Some a) ≡ command s c None

-- a command that has its answer asks no more
abbrev pub NothingIsAskedTwice : Type 0
NothingIsAskedTwice = (s : State) (c : Command) (a : Answer) (r : Request) → command s c (Some a) ≡ Ok (Asks r) → ⊥

-- where a command that has its answer fails by a file, the answer doesn't serve what it asked for
abbrev pub OnlyUnservedFilesFail : Type 0
OnlyUnservedFilesFail = (s : State) (c : Command) (r : Request) (a : Answer) → command s c None ≡ Ok (Asks r) →
    command s c (Some a) ≡ Err fault.File → IsFalse (serves r a)

-- only `w` asks for a file to be written, by the path that it uses
abbrev pub FilesAreWrittenByTheirPath : Type 0
FilesAreWrittenByTheirPath = (s : State) (c : Command) (given : Option Answer) (path bytes : List ℕ) →
    command s c given ≡ Ok (Asks (request.Write path bytes)) →
    (own : Option (List ℕ)) × (c.verb ≡ ed.WriteFile own) × (used_path own s ≡ Ok path)

-- the last of these requests was answered, and not served
pub data LastUnserved : List Request → List Answer → Type 0 where
  last : (r : Request) (a : Answer) (later : List Answer) → IsFalse (serves r a) → LastUnserved (r ∷ []) (a ∷ later)
  next : (r : Request) (a : Answer) (asked : List Request) (answers : List Answer) → LastUnserved asked answers → LastUnserved (r ∷ asked) (a ∷ answers)

-- an answer with which a run starts: the file's bytes, or that there is no such file
abbrev pub starts : Answer → Bool
starts (answer.Bytes bytes) = true
starts answer.Missing = true
starts a = false

-- The answer that makes a run end by a file: one to the start's request, if it has a file, with which it doesn't start, or one that
-- doesn't serve a command's.
pub data FileCause : (start : Option (List ℕ)) → List Request → List Answer → Type 0 where
  at_start : (path : List ℕ) (a : Answer) (later : List Answer) → IsFalse (starts a) → FileCause (Some path) (request.Read path ∷ []) (a ∷ later)
  at_command : (asked : List Request) (answers : List Answer) → LastUnserved asked answers → FileCause None asked answers
  after_start : (path : List ℕ) (a : Answer) (asked : List Request) (answers : List Answer) → LastUnserved asked answers →
      FileCause (Some path) (request.Read path ∷ asked) (a ∷ answers)

-- where a run ends by a file, an answer is the cause
abbrev pub FilesHaveACause : Type 0
FilesHaveACause = (script : Script) (o : Options) (answers : List Answer) → stop_of (run script o answers) ≡ Ends (Err fault.File) →
    FileCause o.path (asked_of (run script o answers)) answers
