-- Where a row of bytes and anchors, with at most one repeat of a set, ends and matches.
use Rattle.std.specs.Prelude.{◌≡◌, ℕ, zero, suc, ◌+◌, ◌-◌, ◌≤◌, Bool, true, false, List, length, Option, Some, None, drop, slice_get, nat_eq, nat_le}
use Rattle.bre_parse.specs.Tree.{Tree, Empty, Then, Set, TextStart, TextEnd, Repeat}
use Rattle.bre_parse.specs.Groups.{no_groups}
use Rattle.bre_parse.specs.Match.{match_from}
use Rattle.bre_parse.specs.Ways.{Way, has_byte_in}
use Rattle.bre_match.specs.declared.row_end.RowEnd.{RowEnd}
use Rattle.bre_match.specs.declared.row_end.RowEnd.TheVariants as row
use Rattle.bre_match.specs.declared.row_search.RowMatch.{RowMatch}
use Rattle.bre_match.specs.declared.row_search.RowMatch.TheVariants as matched
use Rattle.bre_match.specs.Runs.{members}
use Rattle.bre_match.specs.Starts.{one_byte_of}

-- this end where what is asked holds, and else none
abbrev pub end_if : Bool → RowEnd → RowEnd
end_if true end = end
end_if false end = row.Nowhere

-- what comes after such an end
abbrev pub after_end : RowEnd → (ℕ → RowEnd) → RowEnd
after_end (row.At place) rest = rest place
after_end row.Nowhere rest = row.Nowhere
after_end row.Untold rest = row.Untold

-- the first of two that isn't nowhere
abbrev pub or_other : (one other : RowEnd) → RowEnd
or_other row.Nowhere other = other
or_other (row.At place) other = row.At place
or_other row.Untold other = row.Untold

-- where one byte of a set, or an anchor, ends
abbrev pub step_end : Tree → List ℕ → (place : ℕ) → RowEnd
step_end (Set negated ranges) text place = end_if (has_byte_in negated ranges (slice_get text place)) (row.At (place + 1))
step_end TextStart text place = end_if (nat_eq place 0) (row.At place)
step_end TextEnd text place = end_if (nat_eq place (length text)) (row.At place)
step_end _ text place = row.Untold

-- where such parts end, one after another
abbrev pub fixed_end : Tree → List ℕ → (place : ℕ) → RowEnd
fixed_end (Then first rest) text place = after_end (step_end first text place) (fixed_end rest text)
fixed_end Empty text place = row.At place
fixed_end _ text place = row.Untold

-- where the rest ends, from this place or from the last of so many before it from which it has an end
abbrev pub last_end : (rest : ℕ → RowEnd) → (place more : ℕ) → RowEnd
last_end rest place zero = rest place
last_end rest place (suc more) = or_other (rest place) (last_end rest (place - 1) more)

-- the least and the most bytes of which set a part takes, where it is a repeat of a set
abbrev pub counts_of : (least : ℕ) → (most : Option ℕ) → Option (Bool × List (ℕ × ℕ)) → Option (ℕ × Option ℕ × (Bool × List (ℕ × ℕ)))
counts_of least most None = None
counts_of least most (Some set) = Some (least, most, set)

abbrev pub repeat_of_set : Tree → Option (ℕ × Option ℕ × (Bool × List (ℕ × ℕ)))
repeat_of_set (Repeat least most content) = counts_of least most (one_byte_of content)
repeat_of_set _ = None

-- where the rest ends after so many bytes in a row, of which this many at least are taken
abbrev pub after_bytes : (least taken : ℕ) → (rest : ℕ → RowEnd) → (place : ℕ) → RowEnd
after_bytes least taken rest place = end_if (nat_le least taken) (last_end rest (place + taken) (taken - least))

-- where an item ends that takes bytes of a set, as this says, or else one byte or none, and the rest after it
abbrev pub item_end : Option (ℕ × Option ℕ × (Bool × List (ℕ × ℕ))) → Tree → (fixed rest : ℕ → RowEnd) → List ℕ → (place : ℕ) → RowEnd
item_end None first fixed rest text place = after_end (step_end first text place) rest
item_end (Some bytes) first fixed rest text place =
    after_bytes bytes.0 (members bytes.1 0 bytes.2.0 bytes.2.1 (drop place text)) fixed place

-- where the longest way of a row ends, the first repeat of which is its last
abbrev pub row_end : Tree → List ℕ → (place : ℕ) → RowEnd
row_end (Then first rest) text place = item_end (repeat_of_set first) first (fixed_end rest text) (row_end rest text) text place
row_end Empty text place = row.At place
row_end _ text place = row.Untold

-- so the longest way ends, without groups; nowhere: there is none
abbrev pub EndsAs : RowEnd → Option Way → Type 0
EndsAs (row.At end) way = way ≡ Some (end, no_groups)
EndsAs row.Nowhere way = way ≡ None
EndsAs row.Untold way = Unit {0}

-- So the first match at or after a place is: without groups from there to there; none; or the first at or after a later place.
abbrev pub TellsMatch : RowMatch → Tree → List ℕ → (from : ℕ) → Type 0
TellsMatch (matched.At start end) tree text from =
    (match_from tree text from ≡ Some (start, (end, no_groups))) × (from ≤ start) × (start ≤ end) × (end ≤ length text)
TellsMatch matched.Nowhere tree text from = match_from tree text from ≡ None
TellsMatch (matched.Untold start) tree text from =
    (match_from tree text start ≡ match_from tree text from) × (from ≤ start) × (start ≤ length text)
