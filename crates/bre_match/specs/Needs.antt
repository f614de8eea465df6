-- The bytes that a sequence needs: one of each set among its items, in their order.
use Rattle.std.specs.Prelude.{ℕ, ◌+◌, Bool, true, false, List, [], ◌∷◌, Option, Some, None, drop}
use Rattle.bre_parse.specs.Tree.{Tree, Then, in_set}
use Rattle.bre_match.specs.Starts.{one_byte_of}

-- the place after this one, if what is asked holds here, or else a later one
abbrev pub after_if : Bool → (place : ℕ) → Option ℕ → Option ℕ
after_if true place later = Some (place + 1)
after_if false place later = later

-- the place after the first byte of a set, of bytes that begin at a place
abbrev pub after_first : Bool → List (ℕ × ℕ) → (place : ℕ) → List ℕ → Option ℕ
after_first negated ranges place [] = None
after_first negated ranges place (byte ∷ bytes) =
    after_if (in_set negated ranges byte) place (after_first negated ranges (place + 1) bytes)

-- without a place something is lacking, and else what is lacking there
abbrev pub lacks_after : (ℕ → Bool) → Option ℕ → Bool
lacks_after rest None = true
lacks_after rest (Some place) = rest place

-- where what comes after an item is looked for: after the first byte of its set, if it is one byte of a set
abbrev pub after_item : Option (Bool × List (ℕ × ℕ)) → List ℕ → (from : ℕ) → Option ℕ
after_item None text from = Some from
after_item (Some set) text from = after_first set.0 set.1 from (drop from text)

-- bytes that the items of a sequence need don't stand in their order from a place on
abbrev pub lacks_needed : Tree → List ℕ → (from : ℕ) → Bool
lacks_needed (Then first rest) text from = lacks_after (lacks_needed rest text) (after_item (one_byte_of first) text from)
lacks_needed _ text from = false
