-- Where a need fails, what the notes up to it are good for: all that the checker asks of them at the places before it holds.
use Rattle.std.specs.Prelude.{◌≡◌, ◌<◌, ◌⊎◌, ℕ, List, [], map, Option, Some, None, IsTrue}
use Rattle.std.specs.List.{All, Contains}
use Rattle.ed_syntax.specs.Commands.{Script}
use Rattle.cert_check.specs.declared.checker.verdict.Place.{Place}
use Rattle.cert_check.specs.Certificates.{Note, note_value}
use Rattle.cert_check.specs.checker.Valid.{counted, checks_from}
use Rattle.analyser.specs.declared.analysis.Start.{Start}
use Rattle.analyser.specs.declared.analysis.Analysis.{Analysis}
use Rattle.analyser.specs.declared.analysis.Analysis.TheVariants.{Vouched, Cannot}
use Rattle.analyser.specs.Following.{paths_from, sight_over, begun}

-- at one command: its own place comes before those of its list, and these come by their numbers
abbrev pub IsBeforeInside : (inner other : Option ℕ) → Type 0
IsBeforeInside inner None = ⊥
IsBeforeInside None (Some other) = Unit {0}
IsBeforeInside (Some inner) (Some other) = inner < other

-- a place comes before another one: it is at an earlier command, or at the same one
abbrev pub IsBefore : (place other : Place) → Type 0
IsBefore place other = (place.command < other.command) ⊎ ((place.command ≡ other.command) × IsBeforeInside place.inner other.inner)

-- Of the checks of a certificate with these notes, each at a place before this one holds, whatever list has all paths that the noted commands
-- may write. The shape isn't checked: a note for each counted command is asked there. The notes end at the place or with the last counted
-- command, so no check of the end stands at a place before it, and these are left out. Nothing is said of the checks at the place itself.
abbrev pub ChecksHoldBefore : Place → Script → Start → List Note → Type 0
ChecksHoldBefore place script start notes =
    (writes : List (List ℕ)) → ((path : List ℕ) → Contains (paths_from (counted script.steps) notes) (Some path) → Contains writes path) →
    All (λ check. IsBefore check.place place → IsTrue check.holds) (checks_from (sight_over script start) writes (λ number left. []) 1 (begun script start) (counted script.steps) notes)

-- where a need fails, they hold before its place
abbrev pub IsChecked : Script → Start → Analysis → Type 0
IsChecked script start (Vouched c) = Unit {0}
IsChecked script start (Cannot place why notes) = ChecksHoldBefore place script start (map note_value notes.items)
