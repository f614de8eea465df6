-- Which numbers the sets of patterns tell apart. A text may hold any number: those above 255 are told from the last byte by no set, if no
-- range goes up to it.
use Rattle.std.specs.Prelude.{◌≡◌, ℕ, ◌<◌, Bool, false, not, ◌||◌, List, length, get_or, nat_le, if◌then◌else◌}
use Rattle.std.specs.List.{All, list_any}
use Rattle.bre_parse.specs.Tree.{Tree, Then, Set, Group, Repeat, in_set}
use Rattle.bre_parse.specs.Bre.{bre_tree}
use Rattle.bre_match.specs.declared.witness.Answer.{Answer}

-- some set has one of the numbers and not the other
abbrev pub tells_apart : Tree → (number other : ℕ) → Bool
tells_apart (Then first rest) number other = tells_apart first number other || tells_apart rest number other
tells_apart (Set negated ranges) number other =
    if in_set negated ranges number then not (in_set negated ranges other) else in_set negated ranges other
tells_apart (Group group content) number other = tells_apart content number other
tells_apart (Repeat least most content) number other = tells_apart content number other
tells_apart _ number other = false

-- one of the ranges goes up to the last byte
abbrev pub goes_up : List (ℕ × ℕ) → Bool
goes_up ranges = list_any (λ range. nat_le 255 range.1) ranges

abbrev pub reaches_top : Tree → Bool
reaches_top (Then first rest) = reaches_top first || reaches_top rest
reaches_top (Set negated ranges) = goes_up ranges
reaches_top (Group group content) = reaches_top content
reaches_top (Repeat least most content) = reaches_top content
reaches_top _ = false

-- none of the patterns tells the numbers apart
abbrev pub AreAlike : List Answer → (number other : ℕ) → Type 0
AreAlike answers number other = All (λ (answer : Answer). tells_apart (bre_tree answer.pattern.now) number other ≡ false) answers

-- one of these bytes stands for the number
abbrev pub StandFor : List Answer → (kinds : List ℕ) → (number : ℕ) → Type 0
StandFor answers kinds number = (k : ℕ) × (k < length kinds) × AreAlike answers number (get_or kinds k 0)

-- one of them stands for each byte
abbrev pub StandForBytes : List Answer → (kinds : List ℕ) → Type 0
StandForBytes answers kinds = (byte : ℕ) → byte < 256 → StandFor answers kinds byte
