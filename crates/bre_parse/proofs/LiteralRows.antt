-- Patterns with the word that they match, computed.
use Rattle.std.specs.Prelude.{◌≡◌, refl, ℕ, List, Option, Some, None, Ok, Err, codes, [], ◌∷◌}
use Rattle.bre_parse.specs.Tree.{covers_below}
use Rattle.bre_parse.specs.Grammar.{pattern}
use Rattle.bre_parse.specs.Literal.{members_below, literal}
use Rattle.bre_parse.proofs.Worked.{Row, row}

-- the word of a pattern that is read
abbrev word : List ℕ → Option (List ℕ)
word text = elim (pattern text) [ Ok tree ↦ literal tree | Err fault ↦ None ]

words : List Row
unfolding members_below covers_below
words =
    row (word (codes "") ≡ Some (codes "")) refl  -- the empty word
    ∷ row (word (codes "a\\.b") ≡ Some (codes "a.b")) refl  -- bytes and escapes
    ∷ row (word (codes "[a]b[]]") ≡ Some (codes "ab]")) refl  -- brackets of one byte
    ∷ row (word (codes "[aa-a]") ≡ Some (codes "a")) refl  -- one byte spelled twice
    ∷ row (word (codes "a[bc]") ≡ None) refl  -- two bytes
    ∷ row (word (codes "a.") ≡ None) refl  -- any byte
    ∷ row (word (codes "^a") ≡ None) refl  -- an anchor
    ∷ row (word (codes "\\(a\\)") ≡ None) refl  -- a group
    ∷ row (word (codes "a\\{2\\}") ≡ None) refl  -- a repeat
    ∷ []
