-- Worked rows of what is known of the line that `s` makes, by the pattern that it looks for, those that the line matched, and one that is asked
-- for.
use Rattle.std.specs.Prelude.{◌≡◌, refl, ℕ, Bool, true, false, List, [], ◌∷◌, Option, Some, None, codes}
use Rattle.bre_parse.specs.Tree.{covers_below}
use Rattle.ed_rules.specs.facts.RewrittenLine.{left_if}
use Rattle.ed_rules.proofs.Worked.{Row, row}

abbrev left : (sought : List ℕ) → (matched : List (List ℕ)) → (asked : List ℕ) → Option Bool
left sought matched asked = left_if (Some sought) matched asked

head_rows : List Row
unfolding covers_below
head_rows =
    row (left (codes "22") (codes "^Port" ∷ codes "22" ∷ []) (codes "^Port") ≡ Some true) refl  -- it starts nowhere in the head
    ∷ row (left (codes "$") (codes "^k0" ∷ []) (codes "^k1") ≡ Some false) refl  -- the head is left, and clashes
    ∷ row (left (codes "$") (codes "^k0" ∷ []) (codes "^k0") ≡ Some true) refl  -- and matches
    ∷ row (left (codes "root") (codes "^User=" ∷ codes "root" ∷ []) (codes "^User=") ≡ Some true) refl  -- its second byte doesn't follow
    ∷ row (left (codes "0") (codes "^k0" ∷ codes "0" ∷ []) (codes "^k0") ≡ None) refl  -- the 0 of the head is replaced, or a later one
    ∷ row (left (codes "0") (codes "^k0" ∷ codes "0" ∷ []) (codes "^k1") ≡ None) refl  -- by a 1, or by another byte
    ∷ row (left (codes "0") (codes "^k0" ∷ codes "0" ∷ []) (codes "^m") ≡ Some false) refl  -- the byte before it is left
    ∷ row (left (codes "b*") (codes "^ab" ∷ []) (codes "^ab") ≡ None) refl  -- an empty match at the start
    ∷ row (left (codes "bc") (codes "^ab" ∷ codes "bc" ∷ []) (codes "^ab") ≡ None) refl  -- a match may go on behind the head
    ∷ row (left (codes "x") (codes "^#x" ∷ codes "x" ∷ []) (codes "^$") ≡ Some false) refl  -- something is left
    ∷ row (left (codes "^#x") (codes "^#x" ∷ []) (codes "^$") ≡ None) refl  -- nothing may be left
    ∷ row (left (codes "b") (codes "^a[bc]" ∷ codes "b" ∷ []) (codes "^ax") ≡ None) refl  -- of the second byte nothing is known
    ∷ row (left (codes "b*a") (codes "^ac" ∷ []) (codes "^ac") ≡ None) refl  -- a repeat that may be empty
    ∷ row (left (codes "x") (codes "^[ab]c" ∷ codes "x" ∷ []) (codes "^ac") ≡ None) refl  -- of the first byte nothing is known
    ∷ row (left (codes "b*c") (codes "^ab" ∷ []) (codes "^ab") ≡ None) refl  -- after a repeat a match may go on behind the head
    ∷ row (left (codes " *c") (codes "^ab" ∷ []) (codes "^ab") ≡ Some true) refl  -- or can't
    ∷ row (left (codes "22") (codes "22" ∷ []) (codes "Port") ≡ None) refl  -- it wasn't known
    ∷ row (left (codes "22") (codes "^Port" ∷ codes "^#" ∷ []) (codes "^#") ≡ Some true) refl  -- each head tells
    ∷ row (left (codes "\\(") (codes "^Port" ∷ []) (codes "^Port") ≡ None) refl  -- what is looked for is no pattern
    ∷ row (left_if None (codes "^Port" ∷ []) (codes "^Port") ≡ None) refl  -- it isn't known what is looked for
    ∷ []

word_rows : List Row
unfolding covers_below
word_rows =
    row (left (codes "^#") (codes "^#GRUB" ∷ codes "console" ∷ []) (codes "console") ≡ Some true) refl  -- no byte is shared
    ∷ row (left (codes "na") (codes "banana" ∷ codes "na" ∷ []) (codes "banana") ≡ None) refl  -- it stands in the word
    ∷ row (left (codes "aa") (codes "ab" ∷ codes "aa" ∷ []) (codes "ab") ≡ None) refl  -- its end begins the word
    ∷ row (left (codes "$") (codes "^docker:" ∷ codes "alice$" ∷ []) (codes "alice$") ≡ None) refl  -- something is put after it
    ∷ row (left (codes "$") (codes "^docker:" ∷ codes "alice" ∷ []) (codes "alice") ≡ Some true) refl  -- and not within it
    ∷ row (left (codes "22") (codes "22$" ∷ codes "22" ∷ []) (codes "22$") ≡ None) refl  -- the word itself
    ∷ row (left (codes "x*") (codes "ab" ∷ []) (codes "ab") ≡ None) refl  -- empty matches within it
    ∷ row (left (codes "=.*") (codes "^memory" ∷ codes "256M" ∷ []) (codes "256M") ≡ None) refl  -- what is taken isn't known
    ∷ row (left (codes "#") (codes "Port" ∷ []) (codes "22") ≡ None) refl  -- the word wasn't known
    ∷ []
