-- Lines that are gone over in their order, where those may be passed over that don't match.
use Rattle.std.specs.Prelude.{ℕ, ◌≡◌, ◌+◌, ◌<◌, ◌≤◌, List, [], ◌∷◌, None, All, drop, length, slice_index_or}
use Rattle.bre_parse.specs.Tree.{Tree}
use Rattle.bre_parse.specs.Match.{match_from}
use Rattle.bre_match.specs.Passing.{needed_by}
use Rattle.ed_base.specs.Lines.{lines_of}
use Rattle.ed_base.specs.Parts.{block}
use Rattle.ed_commands.specs.declared.editor.course.Course.{Course}
use Rattle.ed_commands.specs.declared.editor.first_line.LineFound.{LineFound}

-- none of the lines matches
abbrev pub NoneMatches : Tree → (lines : List (List ℕ)) → Type 0
NoneMatches tree lines = All (λ line. match_from tree line 0 ≡ None) lines

-- so many lines of the text stand before this one, and these bytes hold those after it
abbrev pub StopsAt : (text : List ℕ) → LineFound → Type 0
StopsAt text found = drop found.before (lines_of text) ≡ found.line.now ∷ lines_of found.rest.now

-- none of the lines from place `from` up to `to` matches
abbrev pub NoneFrom : Tree → (texts : List (List ℕ)) → (from to : ℕ) → Type 0
NoneFrom tree texts from to = (i : ℕ) → from ≤ i → i < to → match_from tree (slice_index_or texts i []) 0 ≡ None

-- the place after the last line
abbrev pub end_of : Course → ℕ
end_of course = course.cut + length (lines_of course.rest.now)

-- the word that each line has which isn't passed over
abbrev pub word_of : Course → List ℕ
word_of course = needed_by course.candidates

-- its lines are among those with these texts, and those that aren't cut are the lines of its bytes
abbrev pub GoesOver : Course → (texts : List (List ℕ)) → Type 0
GoesOver course texts = block course.cut (end_of course) texts ≡ lines_of course.rest.now
