-- Where a script is vouched for, and which places an analysis gets past (our own).
use Rattle.std.specs.Prelude.{◌≡◌, ◌<◌, ◌≤◌, ◌⊎◌, ◌+◌, ◌-◌, ◌^◌, ◌++◌, ℕ, List, [], Option, Some, None, IfSome, IsSomeAnd}
use Rattle.std.specs.Option.{unwrap_or}
use Rattle.ed_base.specs.declared.fault.Fault.{Fault}
use Rattle.ed_syntax.specs.Commands.{Script}
use Rattle.landmarks.specs.ChainValues.{ChainValue}
use Rattle.ed_rules.specs.LineBounds.{most_lines, IsAtMost}
use Rattle.ed_rules.specs.Texts.{with_texts}
use Rattle.cert_check.specs.declared.checker.verdict.Place.{Place}
use Rattle.cert_check.specs.Certificates.{Note}
use Rattle.analyser.specs.declared.analysis.Start.{Start}
use Rattle.analyser.specs.Following.{stated_of}
use Rattle.analyser.specs.Analysis.{IsFailure}
pub use Rattle.analyser.specs.Judged.{IsVouched}

-- the bounds of a start are those of some start file: in order, and at most most_lines
pub record IsAllowed (start : Start) : Type 0 where
  pub ordered : IsAtMost start.min start.max
  pub low : start.min ≤ most_lines
  pub high : IfSome start.max (λ most. most ≤ most_lines)

-- the first need of the script that fails over this start is the one at the place, by some fault
abbrev pub FailsAt : Script → Start → Place → Type 0
FailsAt script start place = (why : Fault) × ((notes : List Note) × IsFailure script start place why notes)

-- a start with another least number of lines
abbrev pub with_min : Start → ℕ → Start
with_min start min = record { path = start.path; min = min; max = start.max; has = start.has; landmarks = start.landmarks }

-- a start with this greatest number of lines
abbrev pub with_max : Start → ℕ → Start
with_max start most = record { path = start.path; min = start.min; max = Some most; has = start.has; landmarks = start.landmarks }

-- the most lines that a start may have
abbrev pub most_of : Option ℕ → ℕ
most_of None = most_lines
most_of (Some most) = most

-- More lines help a script: it isn't vouched for over the start, but is where there are as many lines as the start may have.
pub record MoreLinesHelp (script : Script) (start : Start) : Type 0 where
  pub refused : IsVouched script start → ⊥
  pub vouched : IsVouched script (with_min start (most_of start.max))

-- Fewer lines help a script: it isn't vouched for over the start, but is where there are as few lines as the start may have.
pub record FewerLinesHelp (script : Script) (start : Start) : Type 0 where
  pub refused : IsVouched script start → ⊥
  pub vouched : IsVouched script (with_max start start.min)

-- What is stated is the same, or these patterns are put in.
abbrev pub IsStating : (has now : Option (List (List ℕ))) → Type 0
IsStating has now = (now ≡ has) ⊎ ((patterns : List (List ℕ)) × (now ≡ Some (with_texts patterns (stated_of has))))

-- the chains of landmarks that are stated, as far as they are
abbrev pub chains_in : (landmarks : Option (List ChainValue)) → List ChainValue
chains_in None = []
chains_in (Some chains) = chains

-- The same landmarks are stated, or these chains come after those that are.
abbrev pub IsLandmarking : (landmarks now : Option (List ChainValue)) → Type 0
IsLandmarking landmarks now = (now ≡ landmarks) ⊎ ((chains : List ChainValue) × (now ≡ Some (chains_in landmarks ++ chains)))

-- there are at most as many lines as were given, where there was a most
abbrev pub IsWithin : (given most : Option ℕ) → Type 0
IsWithin None most = Unit {0}
IsWithin (Some given) most = IsSomeAnd most (λ m. m ≤ given)

-- A start has the path of another one, no pattern and no landmark is left out that is stated there, and its bounds lie within those of that one.
pub record Keeps (start then : Start) : Type 0 where
  pub path : then.path ≡ start.path
  pub stated : IsStating start.has then.has
  pub landmarks : IsLandmarking start.landmarks then.landmarks
  pub least : start.min ≤ then.min
  pub most : IsWithin start.max then.max

-- In one command: its own needs come first, and then those of its list's commands in their order.
abbrev pub IsLaterInside : (next place : Option ℕ) → Type 0
IsLaterInside (Some next) (Some place) = place < next
IsLaterInside (Some next) None = Unit {0}
IsLaterInside None place = ⊥

-- The order of an analysis: a later command, or the same one and a later place inside.
abbrev pub IsAfter : (next place : Place) → Type 0
IsAfter next place = (place.command < next.command) ⊎ ((next.command ≡ place.command) × IsLaterInside next.inner place.inner)

-- The script gets past a place: no need of it fails over this start, or the first one that fails comes after the place.
pub data GetsPast (script : Script) (start : Start) (place : Place) : Type 0 where
  vouched : IsVouched script start → GetsPast script start place
  later : (next : Place) (why : Fault) (notes : List Note) → IsFailure script start next why notes → IsAfter next place → GetsPast script start place

-- The script gets past a command with all of its list: past each place in it, as far as places are counted. Of a command of a list, it gets
-- past that one alone.
abbrev pub GetsPastWhole : Script → Start → Place → Type 0
GetsPastWhole script start place =
    (inner : ℕ) → inner < 2 ^ 64 → GetsPast script start (record { command = place.command; inner = Some (unwrap_or place.inner inner) })

-- The last of so many commands, of which the first stands at the place; of none, the command before it.
abbrev pub last_of : Place → (count : ℕ) → Place
last_of place count = record { command = (place.command + count) - 1; inner = place.inner }
