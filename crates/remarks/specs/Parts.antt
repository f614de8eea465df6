-- The parts of a pattern's text: bracket expressions, backslashes with the byte after each, and other bytes (XBD 9.3, "Basic Regular Expressions").
use Rattle.std.specs.Prelude.{ℕ, zero, suc, ◌-◌, Bool, true, false, List, [], ◌∷◌, length, take, Some, None, nat_eq, nat_lt}
use Rattle.std.specs.List.{list_any}
use Rattle.bre_parse.specs.Brackets.{after_bracket}
use Rattle.ed_syntax.specs.spelling.Characters.{backslash, left_square_bracket}
use Rattle.remarks.specs.declared.parts.Part.{Part}
use Rattle.remarks.specs.declared.parts.Part.TheVariants as part

-- one of the bytes is above 127, as all bytes of a character beyond ASCII are
abbrev pub has_high : List ℕ → Bool
has_high bytes = list_any (λ b. nat_lt 127 b) bytes

-- so many bytes are the inside of a bracket expression, with the `]`
abbrev pub bracket_of : (len : ℕ) → List ℕ → Part × ℕ
bracket_of len rest = (part.Bracket (has_high (take len rest)), len)

-- the part that a `[` before these bytes begins, and how many of them belong to it
abbrev pub bracket_at : List ℕ → Part × ℕ
bracket_at rest = elim (after_bracket rest) [ Some after ↦ bracket_of (length rest - length after) rest | None ↦ (part.Plain left_square_bracket, 0) ]

-- the same of a backslash
abbrev pub escape_at : List ℕ → Part × ℕ
escape_at [] = (part.Plain backslash, 0)
escape_at (b ∷ rest) = (part.Escaped b, 1)

-- the same of any byte
abbrev pub part_at : (byte : ℕ) → List ℕ → Part × ℕ
part_at b rest =
    elim (nat_eq b backslash) [ true ↦ escape_at rest | false ↦ elim (nat_eq b left_square_bracket) [ true ↦ bracket_at rest | false ↦ (part.Plain b, 0) ] ]

-- the parts of a text after its first bytes, so many of which belong to the part before
abbrev pub parts_after : (passed : ℕ) → List ℕ → List Part
parts_after passed [] = []
parts_after (suc passed) (b ∷ text) = parts_after passed text
parts_after zero (b ∷ text) = (part_at b text).0 ∷ parts_after (part_at b text).1 text

-- the parts of a text, in their order
abbrev pub parts_of : List ℕ → List Part
parts_of text = parts_after 0 text
