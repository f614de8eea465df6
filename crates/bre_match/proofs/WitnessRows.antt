-- Worked rows of what several patterns answer of one text, computed from the bytes of the patterns.
use Rattle.std.proofs.Common.{ap, sym, ◌∙◌}
use Rattle.std.specs.Prelude.{◌≡◌, refl, ℕ, true, false, List, [], ◌∷◌, ◌++◌, Some, None, Ok, Err, codes, is_some}
use Rattle.bre_parse.specs.Tree.{Tree, Empty, covers_below}
use Rattle.bre_parse.specs.Bre.{bre_tree}
use Rattle.bre_parse.specs.Grammar.{pattern}
use Rattle.bre_parse.specs.Match.{match_from}
use Rattle.bre_match.specs.declared.witness.Answer.{Answer}
use Rattle.bre_match.specs.Parts.{part_of}
use Rattle.bre_match.specs.Witness.{IsAnswered}
use Rattle.bre_match.specs.ByteKinds.{tells_apart, reaches_top}
use Rattle.bre_match.specs.Watches.{next_watch, is_as_said, is_out}
use Rattle.bre_match.proofs.Worked.{Row, row}

-- the tree of a pattern that is read
abbrev tree : List ℕ → Tree
tree bytes = elim (pattern bytes) [ Ok read ↦ read | Err fault ↦ Empty ]

-- the pattern of an answer
abbrev Is : Answer → List ℕ → Type 0
Is answer bytes = bre_tree answer.pattern.now ≡ tree bytes

answered : List Row
unfolding covers_below
answered =
    row ((a : Answer) → Is a (codes "^a=") → a.matches ≡ true → IsAnswered (codes "a=1") a) (λ a is yes. ap (λ t. is_some (match_from t (codes "a=1") 0)) is ∙ sym yes)  -- it matches as is said
    ∷ row ((a : Answer) → Is a (codes "=") → a.matches ≡ true → IsAnswered (codes "a=1") a) (λ a is yes. ap (λ t. is_some (match_from t (codes "a=1") 0)) is ∙ sym yes)  -- a match may start anywhere
    ∷ row ((a : Answer) → Is a (codes "^b=") → a.matches ≡ false → IsAnswered (codes "a=1") a) (λ a is no. ap (λ t. is_some (match_from t (codes "a=1") 0)) is ∙ sym no)  -- it doesn't match as is said
    ∷ row ((a : Answer) → Is a (codes "^a=") → a.matches ≡ false → IsAnswered (codes "a=1") a → ⊥) (λ a is no said. let met = ap (λ t. is_some (match_from t (codes "a=1") 0)) is in cc)  -- it matches where it is not to
    ∷ row ((a : Answer) → Is a (codes "^b=") → a.matches ≡ true → IsAnswered (codes "a=1") a → ⊥) (λ a is yes said. let met = ap (λ t. is_some (match_from t (codes "a=1") 0)) is in cc)  -- it doesn't match where it is to
    ∷ []

numbers : List Row
unfolding covers_below
numbers =
    row (tells_apart (tree (codes "[a-c]x")) 97 99 ≡ false) refl  -- both are in one set and out of the other
    ∷ row (tells_apart (tree (codes "[a-c]x")) 97 100 ≡ true) refl  -- a set has the first alone
    ∷ row (tells_apart (tree (codes "[a-c]x")) 100 120 ≡ true) refl  -- a set has the second alone
    ∷ row (tells_apart (tree (codes "\\(x\\)*[^a]")) 97 98 ≡ true) refl  -- a set of all others
    ∷ row (tells_apart (tree (codes "\\(x\\)*")) 97 120 ≡ true) refl  -- a set in a group that is repeated
    ∷ row (tells_apart (tree (codes "^x*$")) 10 300 ≡ false) refl  -- anchors tell nothing
    ∷ row (reaches_top (tree (codes "[^a]x")) ≡ false) refl  -- no range goes far
    ∷ row (reaches_top (tree (codes "x\\([" ++ 240 ∷ codes "-" ++ 255 ∷ codes "]\\)*")) ≡ true) refl  -- a range goes up to the last byte
    ∷ []

watched : List Row
unfolding covers_below
watched =
    row (next_watch (part_of (tree (codes "ab"))) (Some []) (codes "xx") 0 ≡ Some []) refl  -- nothing has begun
    ∷ row (next_watch (part_of (tree (codes "ab"))) (Some []) (codes "aa") 1 ≡ Some (Some 0 ∷ None ∷ [])) refl  -- the first byte was met
    ∷ row (next_watch (part_of (tree (codes "ab"))) (Some (Some 0 ∷ None ∷ [])) (codes "bb") 1 ≡ Some (None ∷ Some 0 ∷ [])) refl  -- the second byte was met
    ∷ row (next_watch (part_of (tree (codes "ab"))) (Some (None ∷ Some 0 ∷ [])) (codes "xx") 1 ≡ None) refl  -- a match has ended
    ∷ row (next_watch (part_of (tree (codes "ab"))) None (codes "xx") 1 ≡ None) refl  -- it stays so
    ∷ row (next_watch (part_of (tree (codes "^a"))) (Some []) (codes "aa") 1 ≡ Some []) refl  -- a later place is no start
    ∷ row (next_watch (part_of (tree (codes "$"))) (Some []) (codes "a") 1 ≡ None) refl  -- the end
    ∷ row (is_as_said true None ≡ true) refl  -- a match was to be
    ∷ row (is_as_said false None ≡ false) refl  -- none was to be
    ∷ row (is_as_said false (Some []) ≡ true) refl  -- there is none
    ∷ row (is_out false None ≡ true) refl  -- no text that goes on is as said
    ∷ row (is_out true None ≡ false) refl  -- any text that goes on is
    ∷ row (is_out false (Some []) ≡ false) refl  -- none has ended yet
    ∷ []
