-- A text file and its lines (XBD 3, "Line", "Incomplete Line", "Text File").
use Rattle.std.specs.Prelude.{ℕ, List, [], ◌∷◌, ◌++◌, true, false, ◌≡◌, ◌≢◌, ◌⊎◌, nat_eq, All}

-- the byte that ends a line
abbrev pub newline : ℕ
newline = 10

-- a line's bytes: any but a newline
abbrev pub IsLine : List ℕ → Type 0
IsLine line = All (λ byte. byte ≢ newline) line

-- each of these is a line
abbrev pub AreLines : List (List ℕ) → Type 0
AreLines lines = All IsLine lines

-- The bytes hold these lines. A last line without its newline is a line; after a last newline there is none.
pub data HoldsLines : List ℕ → List (List ℕ) → Type 0 where
  empty : HoldsLines [] []
  incomplete : (line : List ℕ) → IsLine line → line ≢ [] → HoldsLines line (line ∷ [])
  whole : (line rest : List ℕ) (lines : List (List ℕ)) → IsLine line →
      HoldsLines rest lines → HoldsLines (line ++ newline ∷ rest) (line ∷ lines)

-- a byte before the first line, or a line of its own
abbrev pub onto_first : ℕ → List (List ℕ) → List (List ℕ)
onto_first byte [] = (byte ∷ []) ∷ []
onto_first byte (line ∷ lines) = (byte ∷ line) ∷ lines

-- the pieces between newlines, without an empty piece after a last newline
abbrev pub lines_of : List ℕ → List (List ℕ)
lines_of [] = []
lines_of (byte ∷ bytes) =
    elim (nat_eq byte newline) [ true ↦ [] ∷ lines_of bytes | false ↦ onto_first byte (lines_of bytes) ]

-- each line followed by a newline
abbrev pub bytes_of : List (List ℕ) → List ℕ
bytes_of [] = []
bytes_of (line ∷ lines) = line ++ newline ∷ bytes_of lines

-- The bytes are this line, its newline and this rest, or a last line without its newline and no rest.
abbrev pub CutsFirst : List ℕ → List ℕ → List ℕ → Type 0
CutsFirst bytes line rest = (bytes ≡ line ++ newline ∷ rest) ⊎ ((bytes ≡ line) × (rest ≡ []))
