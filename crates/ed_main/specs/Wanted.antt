-- The start that a job asks for, over which a script is judged: it is stated, or proposed from a file that is read when the job is done (our
-- own).
use Rattle.std.specs.Prelude.{◌≡◌, ◌<◌, ◌≤◌, ◌++◌, ℕ, Bool, List, [], ◌∷◌, length, Option}
use Rattle.sources.specs.declared.source.ReadFault.{ReadFault}
use Rattle.sources.specs.declared.source.ReadFault.TheVariants as reading
use Rattle.ed_base.specs.Lines.{lines_of}
use Rattle.ed_syntax.specs.declared.request.Answer.{Answer}
use Rattle.ed_syntax.specs.declared.request.Answer.TheVariants as answer
use Rattle.ed_syntax.specs.declared.request.Request.TheVariants as request
use Rattle.ed_session.specs.Drives.{Log}
use Rattle.ed_rules.specs.LineBounds.{most_lines}
use Rattle.ed_calls.specs.declared.starts.Starts.{Starts}
use Rattle.ed_calls.specs.declared.starts.Starts.TheVariants as starts
use Rattle.ed_calls.specs.Starts.{path_of}
use Rattle.ed_main.specs.declared.proposing.NoStart.{NoStart}
use Rattle.ed_main.specs.declared.proposing.Unfit.{Unfit}
use Rattle.ed_main.specs.declared.proposing.Unfit.TheVariants as unfit
use Rattle.ed_main.specs.declared.wanted.Wanted.{Wanted}
use Rattle.ed_main.specs.declared.wanted.Wanted.TheVariants.{Stated, Like}
use Rattle.ed_main.specs.Chains.{AreLandmarked}
use Rattle.ed_main.specs.Starts.{AreStarts, HasBytes}
use Rattle.ed_main.specs.Several.{status_of_unread}

-- the path of the start file, if there is one
abbrev pub wanted_path : Wanted → Option (List ℕ)
wanted_path (Stated given at) = path_of given
wanted_path (Like path patterns like) = path

-- what is known of it before a file is read: bounds that are given are allowed, and a path has a byte
abbrev pub IsWanted : Wanted → Type 0
IsWanted (Stated given at) = AreStarts given
IsWanted (Like path patterns like) = HasBytes path

-- the start that is proposed from a file of these bytes
abbrev pub starts_like : (path : Option (List ℕ)) → (patterns : Bool) → (file : List ℕ) → Starts
starts_like path patterns file = starts.Like (record { path = path; patterns = patterns; file = file })

-- the file at this path was asked for, and that was answered so
abbrev pub IsAsked : (path : List ℕ) → Answer → (before after : Log) → Type 0
IsAsked path given before after = after ≡ before ++ (request.Read path, given) ∷ []

-- the start is proposed from the bytes of the file at this path, which was read and has as many lines as a start may have, or fewer
pub record IsProposed (path : Option (List ℕ)) (patterns : Bool) (like : List ℕ) (before after : Log) (found : Starts) : Type 0 where
  pub file : List ℕ
  pub read : IsAsked like (answer.Bytes file) before after
  pub few : length (lines_of file) ≤ most_lines
  pub exact : found ≡ starts_like path patterns file

-- why no start is proposed from the file at this path; a read for which there is no memory is in no log
abbrev pub IsUnfit : Unfit → (path : List ℕ) → (before after : Log) → Type 0
IsUnfit unfit.Absent path before after = IsAsked path answer.Missing before after
IsUnfit unfit.Unread path before after = IsAsked path answer.Refused before after
IsUnfit unfit.TooLong path before after = (file : List ℕ) × IsAsked path (answer.Bytes file) before after × (most_lines < length (lines_of file))
IsUnfit unfit.Memory path before after = after ≡ before

-- the fault that it is
abbrev pub fault_of : Unfit → ReadFault
fault_of unfit.Memory = reading.Memory
fault_of other = reading.Refused

-- a file was read and used so, or it wasn't read
pub data WithFile (Used : List ℕ → ℕ → Type 0) (status : ℕ) : Type 0 where
  read : (file : List ℕ) → Used file status → WithFile Used status
  unread : (fault : ReadFault) → status ≡ status_of_unread fault → WithFile Used status

-- a start was used so, with the landmarks of the chains that these texts spell
pub data WithLandmarks (given : Starts) (at : List (List ℕ)) (Used : Starts → ℕ → Type 0) (status : ℕ) : Type 0 where
  landmarked : (starts : Starts) → AreLandmarked given at starts → Used starts status → WithLandmarks given at Used status

-- the start that is asked for was used so
abbrev pub WithStarts : Wanted → (Used : Starts → ℕ → Type 0) → ℕ → Type 0
WithStarts (Stated given at) Used status = WithLandmarks given at Used status
WithStarts (Like path patterns like) Used status = WithFile (λ file. Used (starts_like path patterns file)) status

-- the start that is asked for was found: it has its landmarks, and no file was read; or it is proposed from the file that was read
abbrev pub AreFound : Wanted → (before after : Log) → Starts → Type 0
AreFound (Stated given at) before after found = AreLandmarked given at found × (after ≡ before)
AreFound (Like path patterns like) before after found = IsProposed path patterns like before after found

-- none was found: it is to be proposed from a file that is unfit
abbrev pub IsNoStart : Wanted → (before after : Log) → NoStart → Type 0
IsNoStart (Stated given at) before after none = ⊥
IsNoStart (Like path patterns like) before after none = (none.like ≡ like) × IsUnfit none.unfit like before after
