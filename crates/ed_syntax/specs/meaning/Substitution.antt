-- Substitution on one line: the matches that are taken, those that are replaced, and the lines that come of it (XCU ed, "Substitute
-- Command").
use Rattle.std.specs.Prelude.{ℕ, zero, suc, ◌+◌, Bool, true, false, ◌&&◌, List, [], ◌∷◌, ◌++◌, flat_map, length, take, drop, Option, Some, None, option_map, nat_eq, nat_le, slice_index_or}
use Rattle.bre_parse.specs.Tree.{Tree}
use Rattle.bre_parse.specs.Match.{match_from}
use Rattle.bre_parse.specs.Ways.{Way, bytes_of}
use Rattle.ed_base.specs.Lines.{newline, lines_of}
use Rattle.ed_syntax.specs.declared.replacement.Part.{Part}
use Rattle.ed_syntax.specs.declared.replacement.Part.TheVariants as part
use Rattle.ed_syntax.specs.declared.replacement.Which.{Which}
use Rattle.ed_syntax.specs.declared.replacement.Which.TheVariants as which

-- a match: where it starts, where it ends, and its groups
abbrev pub Found : Type 0
Found = ℕ × Way

-- a match of no bytes
abbrev pub is_empty : Found → Bool
is_empty m = nat_eq m.0 m.1.0

-- A match that was found from a place on, and those that are taken after it. An empty one right at the end of a full one that was
-- taken isn't taken (our choice); after an empty one a byte is kept.
abbrev pub taken_first : (again : ℕ → Bool → List Found) → (from : ℕ) → (after_full : Bool) → Option Found → List Found
taken_first again from after_full None = []
taken_first again from after_full (Some m) =
    elim (is_empty m) [
      | false ↦ m ∷ again m.1.0 true
      | true ↦ elim (after_full && nat_eq m.0 from) [ true ↦ again (from + 1) false | false ↦ m ∷ again (m.1.0 + 1) false ]
    ]

-- the matches that are taken from a place on, up to the text's end; at most so many are looked for, which no text reaches
abbrev pub taken_from : (most : ℕ) → Tree → List ℕ → (from : ℕ) → (after_full : Bool) → List Found
taken_from zero tree text from after_full = []
taken_from (suc most) tree text from after_full =
    elim (nat_le from (length text)) [
      | true ↦ taken_first (λ place full. taken_from most tree text place full) from after_full (match_from tree text from)
      | false ↦ []
    ]

-- the matches that are taken in a text; each next one is looked for at least a byte further on
abbrev pub taken : Tree → List ℕ → List Found
taken tree text = taken_from (suc (length text)) tree text 0 false

-- those of them that are replaced
abbrev pub picked : Which → List Found → List Found
picked which.First matches = take 1 matches
picked (which.Nth before) matches = take 1 (drop before matches)
picked which.All matches = matches

-- the bytes of a group; one that isn't set has none
abbrev pub group_bytes : List ℕ → Option (ℕ × ℕ) → List ℕ
group_bytes text None = []
group_bytes text (Some span) = bytes_of text span

-- what a part of the replacement stands for at a match; a split is a newline
abbrev pub expanded : List ℕ → Found → Part → List ℕ
expanded text m (part.Literal byte) = byte ∷ []
expanded text m part.Match = bytes_of text (m.0, m.1.0)
expanded text m (part.Group group) = group_bytes text (slice_index_or m.1.1 group None)
expanded text m part.Split = newline ∷ []

-- the text from a place on, with the replacement in place of these matches
abbrev pub rewritten : List Part → List ℕ → (from : ℕ) → List Found → List ℕ
rewritten parts text from [] = drop from text
rewritten parts text from (m ∷ matches) =
    bytes_of text (from, m.0) ++ (flat_map (expanded text m) parts ++ rewritten parts text m.1.0 matches)

-- a text where these matches are replaced; none where there are none
abbrev pub replaced_in : List Part → List ℕ → List Found → Option (List ℕ)
replaced_in parts text [] = None
replaced_in parts text (m ∷ matches) = Some (rewritten parts text 0 (m ∷ matches))

-- the lines of a text that was split at its newlines
abbrev pub split_at_newlines : List ℕ → List (List ℕ)
split_at_newlines text = lines_of (text ++ newline ∷ [])

-- the lines that a substitution makes of a line; none where no match is replaced
abbrev pub substituted : Tree → List Part → Which → List ℕ → Option (List (List ℕ))
substituted tree parts choice text = option_map split_at_newlines (replaced_in parts text (picked choice (taken tree text)))
