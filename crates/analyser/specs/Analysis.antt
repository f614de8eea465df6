-- What the analyser answers: a certificate just where no need fails, else the first need that fails.
use Rattle.std.specs.Prelude.{◌≡◌, ◌↔◌, ◌⊎◌, ℕ, ◌+◌, ℤ, pos, negsuc, List, map, length, Option, Some, None, min, nat_lt, if◌then◌else◌}
use Rattle.std.specs.List.{Contains}
use Rattle.std.specs.List.Sorted.{IsStrictlySortedBy}
use Rattle.std.specs.Ordering.{nat_cmp}
use Rattle.std.specs.Cmp.Lexicographic.{slice_cmp}
use Rattle.ed_base.specs.declared.fault.Fault.{Fault}
use Rattle.zones.specs.Name as name
use Rattle.zones.specs.Name.{last_line}
use Rattle.zones.specs.Known.{least, greatest}
use Rattle.ed_syntax.specs.Commands.{Script}
use Rattle.ed_rules.specs.Choices.{Choice}
pub use Rattle.ed_rules.specs.LineBounds.{most_lines}
use Rattle.cert_check.specs.declared.checker.verdict.Verdict.TheVariants.{Accepted}
use Rattle.cert_check.specs.declared.checker.verdict.Place.{Place}
use Rattle.cert_check.specs.Certificates.{Note, note_value, Certificate, certificate_value}
use Rattle.cert_check.specs.text.HasText.{HasText}
use Rattle.cert_check.specs.checker.Valid.{counted, has_quit, judged}
use Rattle.analyser.specs.declared.analysis.Start.{Start}
use Rattle.analyser.specs.declared.analysis.Analysis.{Analysis}
use Rattle.analyser.specs.declared.analysis.Analysis.TheVariants.{Vouched, Cannot}
use Rattle.analyser.specs.Following.{AreNotes, NotesFail, result_from, paths_from, version_of, stated_of, chains_of_start, sight_over, begun, end_fault}

-- a low bound as it is told: 0 where none is known, or one below 0; most_lines where it is higher
abbrev pub low_of : Option ℤ → ℕ
low_of (Some (pos n)) = min n most_lines
low_of _ = 0

-- a high bound as it is told: 0 where it is below 0, none where it is higher than most_lines
abbrev pub high_of : Option ℤ → Option ℕ
high_of None = None
high_of (Some (pos n)) = if nat_lt most_lines n then None else Some n
high_of (Some (negsuc n)) = Some 0

-- the listed paths are just those that may be written, each once, in the order of their bytes
pub record AreListed (writes : List (List ℕ)) (paths : List Choice) : Type 0 where
  pub just : (path : List ℕ) → Contains writes path ↔ Contains paths (Some path)
  pub rising : IsStrictlySortedBy (slice_cmp nat_cmp) writes

-- The certificate of a script in which no need fails: it has the version and the start that were asked for, with the landmarks that count,
-- what follows from there, and the known bounds of the number of lines left.
pub record IsCertificate (script : Script) (start : Start) (c : Certificate) : Type 0 where
  pub version : c.version ≡ version_of script start
  pub path : c.path ≡ start.path
  pub min : c.min ≡ start.min
  pub max : c.max ≡ start.max
  pub has : c.has ≡ stated_of start.has
  pub landmarks : c.landmarks ≡ chains_of_start script start
  pub notes : AreNotes (sight_over script start) (counted script.steps) (begun script start) c.notes
  pub last : c.last ≡ result_from (sight_over script start) (counted script.steps) (begun script start) c.notes
  pub end : end_fault (has_quit script.steps) script.fault c.last ≡ None
  pub low : c.low ≡ low_of (least c.last.zone last_line name.zero)
  pub high : c.high ≡ high_of (greatest c.last.zone last_line name.zero)
  pub writes : AreListed c.writes (paths_from (counted script.steps) c.notes)

-- the first need that fails is one of a counted command, or of its list; the notes are those up to it
pub record CommandFails (script : Script) (start : Start) (place : Place) (why : Fault) (notes : List Note) : Type 0 where
  pub number : place.command ≡ length notes
  pub fails : NotesFail (sight_over script start) place.inner why (counted script.steps) (begun script start) notes

-- it is one of the end, whose number is that after the last counted command; there is a note for each of these
pub record EndFails (script : Script) (start : Start) (place : Place) (why : Fault) (notes : List Note) : Type 0 where
  pub at_end : place ≡ record { command = length notes + 1; inner = None }
  pub noted : AreNotes (sight_over script start) (counted script.steps) (begun script start) notes
  pub fails : end_fault (has_quit script.steps) script.fault (result_from (sight_over script start) (counted script.steps) (begun script start) notes) ≡ Some why

-- the first need that fails
abbrev pub IsFailure : Script → Start → Place → Fault → List Note → Type 0
IsFailure script start place why notes = CommandFails script start place why notes ⊎ EndFails script start place why notes

-- the answer: a certificate just where no need fails, else the first need that fails
abbrev pub IsAnswer : Script → Start → Analysis → Type 0
IsAnswer script start (Vouched c) = IsCertificate script start (certificate_value c)
IsAnswer script start (Cannot place why notes) = IsFailure script start place why (map note_value notes.items)

-- where a certificate is given, the checker accepts it
abbrev pub IsValid : Script → Analysis → Type 0
IsValid script (Vouched c) = judged script (certificate_value c) ≡ Accepted
IsValid script (Cannot place why notes) = Unit {0}

-- where a certificate is given, it has a text
abbrev pub HasTextIfVouched : Analysis → Type 0
HasTextIfVouched (Vouched c) = HasText (certificate_value c)
HasTextIfVouched (Cannot place why notes) = Unit {0}
