-- Worked substitutions on one line; what comes of them is what the standard and our choices say.
use Rattle.std.specs.Prelude.{◌≡◌, refl, ℕ, List, [], ◌∷◌, Option, Some, None, Ok, Err, codes}
use Rattle.bre_parse.specs.Tree as tree
use Rattle.bre_parse.specs.Grammar.{pattern}
use Rattle.ed_syntax.specs.declared.replacement.Part.{Part}
use Rattle.ed_syntax.specs.declared.replacement.Part.TheVariants as part
use Rattle.ed_syntax.specs.declared.replacement.Which.{Which}
use Rattle.ed_syntax.specs.declared.replacement.Which.TheVariants as which
use Rattle.ed_syntax.specs.meaning.Substitution.{substituted}
use Rattle.ed_syntax.proofs.meaning.Worked.{Row, row}

-- what becomes of a line where the matches of this pattern are replaced
abbrev pub becomes : (pattern_text : List ℕ) → List Part → Which → (line : List ℕ) → Option (List (List ℕ))
becomes pattern_text parts choice line = elim (pattern pattern_text) [ Ok tree ↦ substituted tree parts choice line | Err fault ↦ None ]

-- one line
abbrev pub one : List ℕ → Option (List (List ℕ))
one line = Some (line ∷ [])

abbrev pub hyphen : List Part
hyphen = part.Literal 45 ∷ []

abbrev pub letter_x : Part
letter_x = part.Literal 120

-- between brackets, as `<&>` and `[\1]`
abbrev pub around : (left right : ℕ) → Part → List Part
around left right inner = part.Literal left ∷ inner ∷ part.Literal right ∷ []

-- matches
matches : List Row
matches =
    row (becomes (codes "x*") hyphen which.All (codes "abc") ≡ one (codes "-a-b-c-")) refl  -- before each byte and at the end
    ∷ row (becomes (codes "x*") hyphen which.All (codes "baxc") ≡ one (codes "-b-a-c-")) refl  -- empty match right after a full one
    ∷ row (becomes (codes "a*") (letter_x ∷ []) which.All (codes "baaac") ≡ one (codes "xbxcx")) refl  -- several bytes in one match
    ∷ row (becomes (codes "b*") (part.Literal 88 ∷ []) (which.Nth 1) (codes "abb") ≡ one (codes "aX")) refl  -- second match is full
    ∷ row (becomes (codes "X") hyphen (which.Nth 2) (codes "aXbXc") ≡ None) refl  -- third of two
    ∷ row (becomes (codes "X") hyphen (which.Nth 1) (codes "aXbXc") ≡ one (codes "aXb-c")) refl  -- second of two
    ∷ row (becomes (codes "x*") hyphen (which.Nth 2) (codes "ab") ≡ one (codes "ab-")) refl  -- last of three empty
    ∷ row (becomes (codes "X") hyphen which.First (codes "aXbXc") ≡ one (codes "a-bXc")) refl  -- first alone
    ∷ row (becomes (codes "^a") hyphen which.All (codes "aaa") ≡ one (codes "-aa")) refl  -- anchor once
    ∷ row (becomes (codes "z") hyphen which.All (codes "abc") ≡ None) refl  -- no match
    ∷ row (becomes (codes "$") (letter_x ∷ []) which.First [] ≡ one (codes "x")) refl  -- line without bytes
    ∷ []

-- parts
parts_rows : List Row
unfolding tree.covers_below
parts_rows =
    row (becomes (codes "\\(ab*\\)\\1") (around 60 62 part.Match) which.First (codes "abbabbb") ≡ one (codes "<abbabb>b")) refl  -- match itself
    ∷ row (becomes (codes "\\(a*\\)*") (around 91 93 (part.Group 0)) which.First (codes "bc") ≡ one (codes "[]bc")) refl  -- group of an empty turn
    ∷ row (becomes (codes "\\(b\\)\\(x\\)*") (around 91 93 (part.Group 1)) which.First (codes "ab") ≡ one (codes "a[]")) refl  -- group that is not set
    ∷ row (becomes (codes "\\(a*\\)*") (letter_x ∷ part.Group 0 ∷ []) which.All (codes "baac") ≡ one (codes "xbxaacx")) refl  -- groups of each match
    ∷ row (becomes (codes "a") [] which.All (codes "banana") ≡ one (codes "bnn")) refl  -- nothing in its place
    ∷ []

-- splits
splits : List Row
splits =
    row (becomes (codes ",") (part.Split ∷ []) which.First (codes "a,b") ≡ Some (codes "a" ∷ codes "b" ∷ [])) refl  -- cut at a comma
    ∷ row (becomes (codes ",") (part.Split ∷ []) which.All (codes ",a,") ≡ Some ([] ∷ codes "a" ∷ [] ∷ [])) refl  -- cut at both ends
    ∷ row (becomes (codes ",") (letter_x ∷ part.Split ∷ letter_x ∷ []) which.All (codes "a,b,c") ≡ Some (codes "ax" ∷ codes "xbx" ∷ codes "xc" ∷ [])) refl  -- bytes beside a split
    ∷ []
