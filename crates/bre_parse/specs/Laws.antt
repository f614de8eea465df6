-- Laws of readings, ways and matches: where they lie, why a match may be searched for in other ways than by listing all of
-- them, and that the counts in the definitions bound nothing.
use Rattle.std.specs.Prelude.{◌≡◌, ℕ, ◌+◌, ◌<◌, ◌≤◌, ◌⊎◌, true, false, List, [], ◌∷◌, length, drop, Option, Some, None, nat_eq, if◌then◌else◌}
use Rattle.std.specs.List.{All}
use Rattle.std.specs.Option.{IsSome}
use Rattle.bre_parse.specs.Tree.{Tree, Repeat}
use Rattle.bre_parse.specs.Brackets.{more_elements}
use Rattle.bre_parse.specs.Grammar.{repeats, items}
use Rattle.bre_parse.specs.Groups.{Groups, refers}
use Rattle.bre_parse.specs.Ways.{Way, ways, turns, fresh_turn, enough, by_end, only_if, begins_with}
use Rattle.bre_parse.specs.Literal.{literal}
use Rattle.bre_parse.specs.Always.{has_last_anchor}
use Rattle.bre_parse.specs.TextHeads.{cannot_start, untouched, is_anchored, head_asked, head_matches, head_clashes}
use Rattle.bre_parse.specs.Words.{word_between, stands_at, are_apart}
use Rattle.bre_parse.specs.Match.{match_from}

-- where some ways end, in their order
abbrev pub ends : List Way → List ℕ
ends [] = []
ends (way ∷ ways) = way.0 ∷ ends ways

-- the first way to an end
abbrev pub first_to : ℕ → List Way → Option Way
first_to end [] = None
first_to end (way ∷ ways) = if nat_eq way.0 end then Some way else first_to end ways

-- each way ends between two places
abbrev pub EndBetween : (low high : ℕ) → List Way → Type 0
EndBetween low high [] = Unit {0}
EndBetween low high (way ∷ ways) = (low ≤ way.0) × (way.0 ≤ high) × EndBetween low high ways

-- a group, if it is set, begins and ends between two places, in this order
abbrev pub IsBetween : (low high : ℕ) → Option (ℕ × ℕ) → Type 0
IsBetween low high None = Unit {0}
IsBetween low high (Some span) = (low ≤ span.0) × (span.0 ≤ span.1) × (span.1 ≤ high)

-- so does each of the groups
abbrev pub AreBetween : (low high : ℕ) → Groups → Type 0
AreBetween low high [] = Unit {0}
AreBetween low high (group ∷ groups) = IsBetween low high group × AreBetween low high groups

-- Without back-references the ends of a part's ways don't depend on the groups.
abbrev pub EndsIgnoreGroups : Type 0
EndsIgnoreGroups =
    (tree : Tree) → refers tree ≡ false → (text : List ℕ) (place : ℕ) (groups other : Groups) →
    ends (ways tree text place groups) ≡ ends (ways tree text place other)

-- Putting ways in order of their ends changes no first way to an end.
abbrev pub OrderKeepsFirst : Type 0
OrderKeepsFirst = (end : ℕ) (ways : List Way) → first_to end (by_end ways) ≡ first_to end ways

-- Each way ends at its place or later, and within the text.
abbrev pub WaysEndWithin : Type 0
WaysEndWithin =
    (tree : Tree) (text : List ℕ) (place : ℕ) (groups : Groups) → place ≤ length text →
    EndBetween place (length text) (ways tree text place groups)

-- A match starts at the place or later, ends there or later and within the text, and its groups lie between its two ends.
abbrev pub MatchesLieWithin : Type 0
MatchesLieWithin =
    (tree : Tree) (text : List ℕ) (from start end : ℕ) (groups : Groups) → from ≤ length text →
    match_from tree text from ≡ Some (start, (end, groups)) →
    (from ≤ start) × (start ≤ end) × (end ≤ length text) × AreBetween start end groups

-- A literal pattern matches its word and nothing else: from a place its one way is to the end of the word, if that stands there.
abbrev pub LiteralsMatchThemselves : Type 0
LiteralsMatchThemselves =
    (tree : Tree) (word text : List ℕ) (place : ℕ) (groups : Groups) → literal tree ≡ Some word → All (λ byte. byte < 256) text →
    ways tree text place groups ≡ only_if (begins_with (drop place text) word) (place + length word, groups)

-- The elements of a bracket expression that are read don't depend on the count, if it is above the text's length.
abbrev pub ElementsIgnoreCount : Type 0
ElementsIgnoreCount =
    (most : ℕ) (text : List ℕ) → length text < most → more_elements most text ≡ more_elements (length text + 1) text

-- Nor do the repeats after a part.
abbrev pub RepeatsIgnoreCount : Type 0
RepeatsIgnoreCount =
    (most depth : ℕ) (tree : Tree) (text : List ℕ) → length text < most →
    repeats most depth tree text ≡ repeats (length text + 1) depth tree text

-- Nor do the items of a sequence.
abbrev pub ItemsIgnoreCount : Type 0
ItemsIgnoreCount =
    (most : ℕ) (inside : List ℕ) (opened : ℕ) (text : List ℕ) → length text < most →
    items most inside opened text ≡ items (length text + 1) inside opened text

-- More turns than enough change no ways of a repeat.
abbrev pub WaysIgnoreCount : Type 0
WaysIgnoreCount =
    (content : Tree) (least : ℕ) (most : Option ℕ) (text : List ℕ) (more place : ℕ) (groups : Groups) →
    place ≤ length text → enough least text place ≤ more →
    turns more (fresh_turn content (ways content text)) least most 0 place groups
    ≡ ways (Repeat least most content) text place groups

-- In a text with this head no way starts at a place that blocks all.
abbrev pub BlockedStarts : Type 0
BlockedStarts =
    (tree : Tree) (head text : List ℕ) (place : ℕ) (groups : Groups) → cannot_start tree head place ≡ true →
    begins_with text head ≡ true → ways tree text place groups ≡ []

-- A text with a head begins with what of it stays untouched, and no way starts there.
abbrev pub UntouchedStands : Type 0
UntouchedStands = (tree : Tree) (head text : List ℕ) → begins_with text head ≡ true → begins_with text (untouched tree head) ≡ true

abbrev pub UntouchedHasNone : Type 0
UntouchedHasNone =
    (tree : Tree) (head text : List ℕ) (place : ℕ) (groups : Groups) → begins_with text head ≡ true →
    place < length (untouched tree head) → ways tree text place groups ≡ []

-- Each text that a pattern matches begins with the head that it asks for.
abbrev pub HeadIsAsked : Type 0
HeadIsAsked =
    (tree : Tree) (text : List ℕ) (found : ℕ × Way) → match_from tree text 0 ≡ Some found → begins_with text (head_asked tree) ≡ true

-- A pattern that a head matches has a match in each text with it, and one that it clashes with has none.
abbrev pub HeadsAreMatched : Type 0
HeadsAreMatched =
    (tree : Tree) (head text : List ℕ) → head_matches head tree ≡ true → begins_with text head ≡ true → IsSome (match_from tree text 0)

abbrev pub ClashingHeadsMatchNothing : Type 0
ClashingHeadsMatchNothing =
    (tree : Tree) (head text : List ℕ) → head_clashes head tree ≡ true → begins_with text head ≡ true → match_from tree text 0 ≡ None

-- A word between anchors has one way from where it stands, to its end, and else none. Nothing is asked of the text's bytes.
abbrev pub WordsMatchThemselves : Type 0
WordsMatchThemselves =
    (tree : Tree) (word text : List ℕ) (place : ℕ) (groups : Groups) → word_between tree ≡ Some word →
    ways tree text place groups
    ≡ only_if (stands_at (is_anchored tree) (has_last_anchor tree) text word place) (place + length word, groups)

-- Where two words stand that are apart, one ends before the other begins.
abbrev pub ApartWordsDoNotMeet : Type 0
ApartWordsDoNotMeet =
    (one other text : List ℕ) (i j : ℕ) → are_apart one other ≡ true → begins_with (drop i text) one ≡ true →
    begins_with (drop j text) other ≡ true → (i + length one ≤ j) ⊎ (j + length other ≤ i)
