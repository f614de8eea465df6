-- Where a match starts and ends, as a search by columns finds it.
use Rattle.std.specs.Prelude.{ℕ, ◌≤◌, ◌&&◌, Bool, true, false, List, [], ◌∷◌, length, Option, Some, None, nat_le, nat_lt, if◌then◌else◌}
use Rattle.bre_parse.specs.Ways.{Way}

-- The match so far, and one that starts there, if one does, and ends here: the one that starts first, and of those the one
-- that ends last. The later the place, the later the end.
abbrev pub better : Option (ℕ × ℕ) → Option ℕ → (place : ℕ) → Option (ℕ × ℕ)
better best None place = best
better None (Some start) place = Some (start, place)
better (Some best) (Some start) place = if nat_le start best.0 then Some (start, place) else Some best

-- no mark is as good as this start
abbrev pub none_up_to : (start : ℕ) → List (Option ℕ) → Bool
none_up_to start [] = true
none_up_to start (None ∷ marks) = none_up_to start marks
none_up_to start (Some w ∷ marks) = nat_lt start w && none_up_to start marks

-- no mark leads to a better match
abbrev pub is_over : Option (ℕ × ℕ) → List (Option ℕ) → Bool
is_over None marks = false
is_over (Some best) marks = none_up_to best.0 marks

-- where a match starts and ends
abbrev pub start_and_end : ℕ × Way → ℕ × ℕ
start_and_end found = (found.0, found.1.0)

-- start and end lie in order after a place and within a text of this length
abbrev pub SpansWithin : (from length : ℕ) → ℕ × ℕ → Type 0
SpansWithin from length found = (from ≤ found.0) × (found.0 ≤ found.1) × (found.1 ≤ length)
