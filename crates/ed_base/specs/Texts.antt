-- Sets of texts. A set is the list of its members, which rise by their bytes.
use Rattle.std.specs.Prelude.{ℕ, Bool, List}
use Rattle.std.specs.List.{filter}
use Rattle.std.specs.Ordering.{nat_cmp}
use Rattle.std.specs.Cmp.Lexicographic.{slice_cmp}
use Rattle.ed_base.specs.Sorted.{rises, has_member, has_members, with_member, with_members}

-- each text stands before those after it, and none stands twice
abbrev pub are_rising : List (List ℕ) → Bool
are_rising set = rises (slice_cmp nat_cmp) set

-- the text is one of the set
abbrev pub is_member : List (List ℕ) → (text : List ℕ) → Bool
is_member set text = has_member (slice_cmp nat_cmp) set text

-- each of the first is one of the second
abbrev pub are_members : (few many : List (List ℕ)) → Bool
are_members few many = has_members (slice_cmp nat_cmp) few many

-- those of the first that are in the second too
abbrev pub both_texts : List (List ℕ) → List (List ℕ) → List (List ℕ)
both_texts one other = filter (is_member other) one

-- the set with one text more, in its place
abbrev pub with_text : (text : List ℕ) → List (List ℕ) → List (List ℕ)
with_text text set = with_member (slice_cmp nat_cmp) text set

-- the set with these texts too, put in one after another
abbrev pub with_texts : List (List ℕ) → List (List ℕ) → List (List ℕ)
with_texts texts set = with_members (slice_cmp nat_cmp) texts set
