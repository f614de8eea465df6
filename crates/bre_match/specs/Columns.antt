-- A search by columns: for one place after another, which byte sets of a part one stands just after, and what for.
use Rattle.std.specs.Prelude.{ℕ, Bool, true, false, List, length, Option, Some, None, nat_le, nat_eq, slice_get, if◌then◌else◌}
use Rattle.bre_parse.specs.Ways.{has_byte_in}
use Rattle.bre_match.specs.Parts.{AtEnd, AtStart, Both, Maybe, Never, Nothing, One, Part, Star}

-- the less of two weights
abbrev pub less_of : Option ℕ → Option ℕ → Option ℕ
less_of None other = other
less_of (Some w) None = Some w
less_of (Some w) (Some v) = if nat_le w v then Some w else Some v

-- a weight where something holds
abbrev pub where_true : Bool → Option ℕ → Option ℕ
where_true true weight = weight
where_true false weight = None

-- The least weight after a part at a place, where one enters it there with this weight.
abbrev pub peek : Part → List ℕ → (place : ℕ) → Option ℕ → Option ℕ
peek Nothing text place weight = weight
peek Never text place weight = None
peek (One negated ranges mark) text place weight = mark
peek AtStart text place weight = where_true (nat_eq place 0) weight
peek AtEnd text place weight = where_true (nat_eq place (length text)) weight
peek (Both first rest) text place weight = peek rest text place (peek first text place weight)
peek (Maybe content) text place weight = less_of weight (peek content text place weight)
peek (Star content) text place weight = less_of weight (peek content text place weight)

-- The marks at the next place, where one enters the part at this one with this weight.
abbrev pub step : Part → List ℕ → (place : ℕ) → Option ℕ → Part
step Nothing text place weight = Nothing
step Never text place weight = Never
step (One negated ranges mark) text place weight =
    One negated ranges (where_true (has_byte_in negated ranges (slice_get text place)) weight)
step AtStart text place weight = AtStart
step AtEnd text place weight = AtEnd
step (Both first rest) text place weight = Both (step first text place weight) (step rest text place (peek first text place weight))
step (Maybe content) text place weight = Maybe (step content text place weight)
step (Star content) text place weight = Star (step content text place (less_of weight (peek content text place weight)))
