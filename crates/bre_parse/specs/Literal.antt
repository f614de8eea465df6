-- Patterns that match one word alone: sequences of sets of one byte each.
use Rattle.std.specs.Prelude.{ℕ, zero, suc, Bool, List, [], ◌∷◌, Option, Some, None, if◌then◌else◌}
use Rattle.bre_parse.specs.Tree.{Tree, Empty, Then, Set, in_set}

-- the bytes of a set below this number, the greatest first
unfoldable pub members_below : ℕ → Bool → List (ℕ × ℕ) → List ℕ
members_below zero negated ranges = []
members_below (suc byte) negated ranges =
    if in_set negated ranges byte then byte ∷ members_below byte negated ranges else members_below byte negated ranges

-- the one byte of these, if it is alone
abbrev pub alone : List ℕ → Option ℕ
alone (byte ∷ []) = Some byte
alone _ = None

-- the byte of a part that is a set of one byte
abbrev pub only_byte : Tree → Option ℕ
only_byte (Set negated ranges) = alone (members_below 256 negated ranges)
only_byte _ = None

-- a byte before a word, if there are both
abbrev pub before : Option ℕ → Option (List ℕ) → Option (List ℕ)
before (Some byte) (Some word) = Some (byte ∷ word)
before _ _ = None

-- The word that a sequence of sets of one byte each matches, the empty one included.
abbrev pub literal : Tree → Option (List ℕ)
literal Empty = Some []
literal (Then first rest) = before (only_byte first) (literal rest)
literal _ = None
