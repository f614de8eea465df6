-- Names of files above a diff (our choice, as GNU diff): a string of C where a byte would end the name or can't be seen.
use Rattle.std.specs.Prelude.{ℕ, ◌+◌, ◌/◌, ◌%◌, List, [], ◌∷◌, ◌++◌, Bool, true, false, not, ◌&&◌, nat_eq, nat_le, flat_map}
use Rattle.std.specs.List.{list_all}

-- the bytes with a name of their own, each beside it: alert, backspace, tab, newline, vertical tab, form feed, return, `"` and `\`
abbrev pub names : List (ℕ × ℕ)
names = (7, 97) ∷ (8, 98) ∷ (9, 116) ∷ (10, 110) ∷ (11, 118) ∷ (12, 102) ∷ (13, 114) ∷ (34, 34) ∷ (92, 92) ∷ []

-- three octal digits
abbrev pub octal : ℕ → List ℕ
octal b = (48 + b / 64) ∷ (48 + b / 8 % 8) ∷ (48 + b % 8) ∷ []

-- a byte as itself where it is printed, or as three octal digits after a backslash
abbrev pub plainly : ℕ → List ℕ
plainly b = elim (nat_le 32 b && nat_le b 126) [ true ↦ b ∷ [] | false ↦ 92 ∷ octal b ]

-- a byte after a backslash by its name, if it has one
abbrev pub named : ℕ → List (ℕ × ℕ) → List ℕ
named b [] = plainly b
named b (entry ∷ entries) = elim (nat_eq b entry.0) [ true ↦ 92 ∷ entry.1 ∷ [] | false ↦ named b entries ]

-- a byte within a string of C
abbrev pub escaped : ℕ → List ℕ
escaped b = named b names

-- the byte needs no quotes: it is printed, and neither a blank nor `"` nor `\`
abbrev pub is_bare : ℕ → Bool
is_bare b = nat_le 33 b && (nat_le b 126 && (not (nat_eq b 34) && not (nat_eq b 92)))

-- a name: as it is where no byte needs quotes, or as a string of C
abbrev pub shown_name : List ℕ → List ℕ
shown_name name = elim (list_all is_bare name) [ true ↦ name | false ↦ 34 ∷ (flat_map escaped name ++ 34 ∷ []) ]
