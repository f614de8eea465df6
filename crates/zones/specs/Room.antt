-- How often a zone can still be weakened: the measure of a search that only weakens zones.
use Rattle.std.specs.Prelude.{ℕ, ◌+◌, ◌-◌, ℤ, pos, negsuc, Option, Some, None, [], ◌∷◌}
use Rattle.zones.specs.Zone.{Bounds}

-- a bound's room: 10^15 + 1 - c of a number c, and 0 of any
abbrev pub room : Option ℤ → ℕ
room None = 0
room (Some (pos n)) = 1000000000000001 - n
room (Some (negsuc n)) = 1000000000000002 + n

-- a zone's room is the sum of the rooms of its bounds
abbrev pub total_room : Bounds → ℕ
total_room [] = 0
total_room (b ∷ rest) = room b + total_room rest
