-- Patterns that are a word, perhaps between anchors: which of them match where another one's matches are replaced.
use Rattle.std.specs.Prelude.{ℕ, ◌+◌, Bool, true, false, ◌&&◌, ◌||◌, not, nat_eq, List, [], ◌∷◌, length, drop, Option, Some, None, if◌then◌else◌}
use Rattle.bre_parse.specs.Tree.{Tree, Empty, Then}
use Rattle.bre_parse.specs.Ways.{begins_with}
use Rattle.bre_parse.specs.Literal.{before}
use Rattle.bre_parse.specs.Always.{is_last_anchor, has_last_anchor}
use Rattle.bre_parse.specs.TextHeads.{single_byte, is_anchored, after_start}

-- the word of the items up to the anchor `$` that ends them, or all of them
abbrev pub word_to_end : Tree → Option (List ℕ)
word_to_end Empty = Some []
word_to_end (Then first rest) = if is_last_anchor first rest then Some [] else before (single_byte first) (word_to_end rest)
word_to_end _ = None

-- the word between the anchors that there are
abbrev pub word_between : Tree → Option (List ℕ)
word_between tree = word_to_end (after_start tree)

-- the word stands at a place of the text: at its head where it has to be there, and at its end
abbrev pub stands_at : (at_start at_end : Bool) → (text word : List ℕ) → (place : ℕ) → Bool
stands_at at_start at_end text word place =
    (not at_start || nat_eq place 0) && (begins_with (drop place text) word && (not at_end || nat_eq (place + length word) (length text)))

-- one word begins with the other
abbrev pub agree : (one other : List ℕ) → Bool
agree [] other = true
agree (byte ∷ one) [] = true
agree (byte ∷ one) (other_byte ∷ other) = nat_eq byte other_byte && agree one other

-- some end of the first word, itself among them and the empty one not, agrees with the second
abbrev pub end_agrees : (one other : List ℕ) → Bool
end_agrees [] other = false
end_agrees (byte ∷ one) other = agree (byte ∷ one) other || end_agrees one other

-- Wherever two words stand in a text, they share no byte of it.
abbrev pub are_apart : (one other : List ℕ) → Bool
are_apart one other = not (end_agrees one other || end_agrees other one)

-- What is replaced shares no byte with any place where a word stands, and is no empty text within it: it is a word apart from it, or an end of
-- the text.
abbrev pub spares_if : (anchored : Bool) → (replaced : Option (List ℕ)) → (word : List ℕ) → Bool
spares_if anchored None word = false
spares_if anchored (Some []) word = anchored
spares_if anchored (Some (byte ∷ bytes)) word = are_apart (byte ∷ bytes) word

abbrev pub spares_word : Tree → (word : List ℕ) → Bool
spares_word replaced word = spares_if (is_anchored replaced || has_last_anchor replaced) (word_between replaced) word

-- The second pattern is a word, or a word and `$`, and matches each text that it matched where matches of the first one are replaced. At the
-- text's end the word doesn't stand any more where something is put there.
abbrev pub keeps_word : (replaced : Tree) → Tree → Bool
keeps_word replaced tree = elim (word_between tree) [
  | Some word ↦ not (is_anchored tree) && (spares_word replaced word && not (has_last_anchor tree && has_last_anchor replaced))
  | None ↦ false
]
