-- What is left of bytes in pieces while they are given out in chunks.
use Rattle.std.specs.Prelude.{ℕ, List, [], ◌∷◌, ◌++◌}

-- the bytes that are left: the next piece and what comes after it, or none where that piece is empty
abbrev pub left : List ℕ → List ℕ → List ℕ
left [] after = []
left (byte ∷ piece) after = byte ∷ (piece ++ after)
