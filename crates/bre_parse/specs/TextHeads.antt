-- What is known of the texts that begin with the same bytes, their head: where no match starts in them, and which patterns match them.
use Rattle.std.specs.Prelude.{ℕ, ◌+◌, Bool, true, false, ◌&&◌, not, nat_eq, List, [], ◌∷◌, Option, Some, None, slice_get, if◌then◌else◌}
use Rattle.bre_parse.specs.declared.text_heads.Step.{Step}
use Rattle.bre_parse.specs.declared.text_heads.Step.TheVariants.{Blocked, Taken, Passed, Open}
use Rattle.bre_parse.specs.Tree.{Tree, Empty, Then, Set, TextStart, TextEnd, Repeat, in_set}
use Rattle.bre_parse.specs.Always.{is_text_start, is_unbounded}

-- WHERE NO MATCH STARTS

-- the part is a set without this byte
abbrev pub lacks : Tree → (byte : ℕ) → Bool
lacks (Set negated ranges) byte = not (in_set negated ranges byte)
lacks _ byte = false

-- What a part comes to at a place where this byte stands: it has no way, it can take the byte at most, its one way is the empty one, or
-- nothing is known. A repeat that may be empty takes none of a byte that its set lacks.
abbrev pub step_at : Tree → (byte place : ℕ) → Step
step_at (Set negated ranges) byte place = if in_set negated ranges byte then Taken else Blocked
step_at TextStart byte place = if nat_eq place 0 then Passed else Blocked
step_at TextEnd byte place = Blocked
step_at (Repeat least most content) byte place = if nat_eq least 0 && is_unbounded most && lacks content byte then Passed else Open
step_at _ byte place = Open

-- the same by the byte of the head; where the head ends nothing is known
abbrev pub step_by : Tree → Option ℕ → (place : ℕ) → Step
step_by part None place = Open
step_by part (Some byte) place = step_at part byte place

abbrev pub step_within : Tree → (head : List ℕ) → (place : ℕ) → Step
step_within part head place = step_by part (slice_get head place) place

-- No match of the sequence starts at this place, in any text with this head: one of its items has no way, and each before it takes a byte of the
-- head, or none.
abbrev pub cannot_start : Tree → (head : List ℕ) → (place : ℕ) → Bool
cannot_start (Then first rest) head place = elim (step_within first head place) [
  | Blocked ↦ true
  | Taken ↦ cannot_start rest head (place + 1)
  | Passed ↦ cannot_start rest head place
  | Open ↦ false
]
cannot_start _ head place = false

-- the head up to the first place where a match may start; `left` is what follows the place
abbrev pub untouched_from : Tree → (head left : List ℕ) → (place : ℕ) → List ℕ
untouched_from tree head [] place = []
untouched_from tree head (byte ∷ left) place =
    if cannot_start tree head place then byte ∷ untouched_from tree head left (place + 1) else []

abbrev pub untouched : Tree → (head : List ℕ) → List ℕ
untouched tree head = untouched_from tree head head 0

-- THE HEAD THAT A PATTERN ASKS FOR

-- The byte of a set of one range, from it to it. Unlike `only_byte` of Literal it says what a text holds there even where nothing is known of
-- the size of the text's bytes.
abbrev pub single_of : (negated : Bool) → List (ℕ × ℕ) → Option ℕ
single_of false (range ∷ []) = if nat_eq range.0 range.1 then Some range.0 else None
single_of _ _ = None

-- the byte of a part that is such a set
abbrev pub single_byte : Tree → Option ℕ
single_byte (Set negated ranges) = single_of negated ranges
single_byte _ = None

-- a byte before others; none, where there is no such byte
abbrev pub onto_bytes : Option ℕ → List ℕ → List ℕ
onto_bytes None later = []
onto_bytes (Some byte) later = byte ∷ later

-- the bytes of the first items, as far as these are such sets
abbrev pub first_bytes : Tree → List ℕ
first_bytes (Then first rest) = onto_bytes (single_byte first) (first_bytes rest)
first_bytes _ = []

-- the pattern begins with the anchor `^`
abbrev pub is_anchored : Tree → Bool
is_anchored (Then first rest) = is_text_start first
is_anchored _ = false

-- the items after it; all, where there is none
abbrev pub after_start : Tree → Tree
after_start (Then first rest) = if is_text_start first then rest else Then first rest
after_start tree = tree

-- the bytes with which each text begins that the pattern matches; none are known where it doesn't begin with `^`
abbrev pub head_asked : Tree → List ℕ
head_asked tree = if is_anchored tree then first_bytes (after_start tree) else []

-- WHAT A HEAD TELLS

-- the byte is there, and no other
abbrev pub is_byte : Option ℕ → (byte : ℕ) → Bool
is_byte None byte = false
is_byte (Some found) byte = nat_eq found byte

-- the items are single bytes, with which the head begins
abbrev pub begins_with_items : (head : List ℕ) → Tree → Bool
begins_with_items head Empty = true
begins_with_items (byte ∷ head) (Then first rest) = is_byte (single_byte first) byte && begins_with_items head rest
begins_with_items _ _ = false

-- The pattern is `^` and then bytes with which the head begins, and nothing more: it matches each text with this head.
abbrev pub head_matches : (head : List ℕ) → Tree → Bool
head_matches head tree = is_anchored tree && begins_with_items head (after_start tree)

-- The pattern is anchored, and can't start at the head: it matches no text with it.
abbrev pub head_clashes : (head : List ℕ) → Tree → Bool
head_clashes head tree = is_anchored tree && cannot_start tree head 0
