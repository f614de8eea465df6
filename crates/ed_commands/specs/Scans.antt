-- How far a line was searched for the matches that a substitution takes, and what is left to be taken.
use Rattle.std.specs.Prelude.{ℕ, suc, ◌≡◌, ◌≤◌, ◌<◌, ◌+◌, ◌-◌, Bool, true, false, ◌&&◌, List, [], ◌∷◌, length, take, drop, Option, Some, None, nat_eq}
use Rattle.bre_parse.specs.Tree.{Tree}
use Rattle.bre_match.specs.declared.Match.{Match}
use Rattle.bre_match.specs.Answer.{spans}
use Rattle.ed_syntax.specs.meaning.Substitution.{Found, is_empty, taken_from}
use Rattle.ed_commands.specs.declared.substitution.Scan.{Scan}

-- the matches that are still to be taken
abbrev pub left_from : Tree → List ℕ → (place : ℕ) → (after_full : Bool) → List Found
left_from tree text place after_full = taken_from (suc (length text) - place) tree text place after_full

-- the same of a scan
abbrev pub left : Tree → List ℕ → Scan → List Found
left tree text scan = left_from tree text scan.place scan.after_full

-- where the search goes on after a match that was taken
abbrev pub scan_after : Found → Scan
scan_after m = elim (is_empty m) [ true ↦ record { place = m.1.0 + 1; after_full = false } | false ↦ record { place = m.1.0; after_full = true } ]

-- an empty match right at the end of the full one before it
abbrev pub passed_over : Scan → Found → Bool
passed_over scan m = scan.after_full && nat_eq m.0 scan.place && nat_eq m.0 m.1.0

-- the next match was taken: it lies within the text from the scan's place on, and the scan goes on after it
pub record Takes (tree : Tree) (text : List ℕ) (old : Scan) (found : Match) (new : Scan) : Type 0 where
  pub first : left tree text old ≡ spans found ∷ left tree text new
  pub begins : old.place ≤ found.start
  pub ordered : found.start ≤ found.end
  pub within : found.end ≤ length text
  pub ends : found.end ≤ new.place
  pub further : old.place < new.place
  pub bounded : new.place ≤ length text + 1

-- no match is left, or the next one was taken
abbrev pub Goes : Tree → List ℕ → Scan → Option Match → Scan → Type 0
Goes tree text old None new = left tree text old ≡ []
Goes tree text old (Some found) new = Takes tree text old found new

-- the match after so many
abbrev pub nth_of : ℕ → List Found → List Found
nth_of passed_over matches = take 1 (drop passed_over matches)

-- a match by itself, if there is one
abbrev pub alone : Option Match → List Found
alone None = []
alone (Some found) = spans found ∷ []
