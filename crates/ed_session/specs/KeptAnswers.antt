-- Answers as a log of files in memory keeps them: a file's bytes by the file's place.
use Rattle.std.specs.Prelude.{ℕ, ◌-◌, ◌≤◌, List, map, length, All, Option, Some, None, option_map}
use Rattle.std.specs.List.{slice_get}
use Rattle.ed_syntax.specs.declared.request.Answer.{Answer}
use Rattle.ed_syntax.specs.declared.request.Answer.TheVariants as answer
use Rattle.ed_syntax.specs.declared.request.Request.{Request}
use Rattle.ed_session.specs.declared.kept.KeptAnswer.{KeptAnswer}
use Rattle.ed_session.specs.declared.kept.KeptAnswer.TheVariants as kept

-- paths with their bytes, the latest first
abbrev pub Files : Type 0
Files = List (List ℕ × List ℕ)

-- what is answered of a file
abbrev pub found : Option (List ℕ) → Answer
found None = answer.Missing
found (Some bytes) = answer.Bytes bytes

-- the bytes of the file at a place, counted from the oldest file, so that it keeps its place when files are added
abbrev pub bytes_at : ℕ → Files → Option (List ℕ)
bytes_at place files = option_map (λ file. file.1) (slice_get files (length files - place))

-- the answer that was kept
abbrev pub answer_of : Files → KeptAnswer → Answer
answer_of files (kept.File place) = found (bytes_at place files)
answer_of files kept.Missing = answer.Missing
answer_of files kept.Refused = answer.Refused
answer_of files kept.Done = answer.Done

-- the place of a kept answer, or 0
abbrev pub place_of : KeptAnswer → ℕ
place_of (kept.File place) = place
place_of kept.Missing = 0
place_of kept.Refused = 0
place_of kept.Done = 0

-- all places of a log are those of so many files
abbrev pub AllWithin : ℕ → List (Request × KeptAnswer) → Type 0
AllWithin count log = All (λ entry. place_of entry.1 ≤ count) log

-- a log with the answers that were kept
abbrev pub told : Files → List (Request × KeptAnswer) → List (Request × Answer)
told files log = map (λ entry. (entry.0, answer_of files entry.1)) log
