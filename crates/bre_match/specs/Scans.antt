-- What an automaton tells of the matches at or after a place: by a scan for all starts, and by a run from one.
use Rattle.std.specs.Prelude.{◌≡◌, ℕ, ◌<◌, ◌≤◌, true, List, length, Option, Some, None, option_map}
use Rattle.std.specs.Option.{is_some}
use Rattle.bre_parse.specs.Tree.{Tree}
use Rattle.bre_parse.specs.Match.{match_from}
use Rattle.bre_match.specs.declared.ending.LastEnd.{LastEnd}
use Rattle.bre_match.specs.declared.ending.LastEnd.TheVariants as last
use Rattle.bre_match.specs.declared.ending.Found.{Found}
use Rattle.bre_match.specs.declared.ending.Found.TheVariants as found
use Rattle.bre_match.specs.Parts.{Part, Reaches}
use Rattle.bre_match.specs.Spans.{start_and_end, SpansWithin}
use Rattle.bre_match.specs.declared.scan.Scanned.{Scanned}
use Rattle.bre_match.specs.declared.scan.Scanned.TheVariants as scan

-- nothing; that there is none; or that there is one, and none starts before a place
abbrev pub IsTold : Tree → List ℕ → (from : ℕ) → Scanned → Type 0
IsTold tree text from scan.Untold = Unit {0}
IsTold tree text from scan.Nowhere = match_from tree text from ≡ None
IsTold tree text from (scan.From start) =
    (from ≤ start) × (start ≤ length text) × (match_from tree text start ≡ match_from tree text from)
    × (is_some (match_from tree text from) ≡ true)

-- nothing; that no way starts there; or where the longest one ends
abbrev pub IsLastEnd : Part → List ℕ → (start : ℕ) → LastEnd → Type 0
IsLastEnd part text start last.Untold = Unit {0}
IsLastEnd part text start last.Nowhere = (end : ℕ) → Reaches part text start end → ⊥
IsLastEnd part text start (last.At end) =
    Reaches part text start end × ((later : ℕ) → end < later → Reaches part text start later → ⊥)

-- what the last end says, if there is one
abbrev pub told_end : Option ℕ → LastEnd
told_end None = last.Nowhere
told_end (Some end) = last.At end

-- that no match starts before a place; or where the first one starts and ends
abbrev pub IsFound : Tree → List ℕ → (from : ℕ) → Found → Type 0
IsFound tree text from (found.NotBefore start) =
    (from ≤ start) × (start ≤ length text) × (match_from tree text start ≡ match_from tree text from)
IsFound tree text from (found.At start end) =
    (Some (start, end) ≡ option_map start_and_end (match_from tree text from)) × SpansWithin from (length text) (start, end)
