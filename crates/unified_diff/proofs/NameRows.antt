-- Worked rows of names, each as GNU diff 3.8 writes it, but for the byte 127, which it writes as it is.
use Rattle.std.specs.Prelude.{◌≡◌, refl, ℕ, List, [], ◌∷◌, ◌++◌, map, codes}
use Rattle.unified_diff.specs.Names.{shown_name}

-- a name of one byte
abbrev of_byte : ℕ → List ℕ
of_byte byte = shown_name (byte ∷ [])

-- what stands between quotes
abbrev quoted : List ℕ → List ℕ
quoted text = 34 ∷ (text ++ 34 ∷ [])

printed_names_stay : map shown_name (codes "/dev/null" ∷ codes "a'b$[~]!" ∷ codes "#.{x}" ∷ []) ≡ codes "/dev/null" ∷ codes "a'b$[~]!" ∷ codes "#.{x}" ∷ []
printed_names_stay = refl

blanks_are_quoted : shown_name (codes "a b") ≡ quoted (codes "a b")
blanks_are_quoted = refl

named_bytes : map of_byte (7 ∷ 8 ∷ 9 ∷ 10 ∷ 11 ∷ 12 ∷ 13 ∷ 34 ∷ 92 ∷ [])
    ≡ map (λ letter. quoted (92 ∷ letter ∷ [])) (codes "abtnvfr" ++ 34 ∷ 92 ∷ [])
named_bytes = refl

other_bytes : map of_byte (1 ∷ 27 ∷ 127 ∷ 255 ∷ [])
    ≡ map (λ digits. quoted (92 ∷ digits)) (codes "001" ∷ codes "033" ∷ codes "177" ∷ codes "377" ∷ [])
other_bytes = refl

-- a letter that is two bytes
letters_beyond_ascii : shown_name (codes "caf" ++ 195 ∷ 169 ∷ []) ≡ quoted (codes "caf" ++ 92 ∷ (codes "303" ++ 92 ∷ codes "251"))
letters_beyond_ascii = refl
