-- Ways that count as one for what comes after: they end at one place, with the same spans of the groups that are asked for.
use Rattle.std.specs.Prelude.{◌≡◌, ◌⊎◌, ℕ, Bool, true, false, not, ◌&&◌, ◌||◌, List, [], ◌∷◌, Option, Some, None, nat_eq, slice_index_or}
use Rattle.bre_parse.specs.Tree.{Tree, Then, BackReference, Group, Repeat}
use Rattle.bre_parse.specs.Groups.{Groups}
use Rattle.bre_parse.specs.Ways.{Way}

-- A part refers to no group but these. A group past the last that is told counts as asked for.
abbrev pub RefersWithin : List Bool → Tree → Type 0
RefersWithin asked (Then first rest) = RefersWithin asked first × RefersWithin asked rest
RefersWithin asked (BackReference group) = slice_index_or asked group true ≡ true
RefersWithin asked (Group group content) = RefersWithin asked content
RefersWithin asked (Repeat least most content) = RefersWithin asked content
RefersWithin asked _ = Unit {0}

-- both are unset, or begin and end at the same places
abbrev pub same_span : Option (ℕ × ℕ) → Option (ℕ × ℕ) → Bool
same_span None None = true
same_span (Some one) (Some other) = nat_eq one.0 other.0 && nat_eq one.1 other.1
same_span _ _ = false

-- the groups that are asked for have the same spans
abbrev pub same_asked : List Bool → Groups → Groups → Bool
same_asked asked [] [] = true
same_asked asked [] (other ∷ others) = false
same_asked asked (one ∷ ones) [] = false
same_asked [] (one ∷ ones) (other ∷ others) = same_span one other && same_asked [] ones others
same_asked (is_asked ∷ asked) (one ∷ ones) (other ∷ others) =
    (not is_asked || same_span one other) && same_asked asked ones others

-- two ways end at one place, with the same spans of the groups that are asked for
abbrev pub alike : List Bool → Way → Way → Bool
alike asked one other = nat_eq one.0 other.0 && same_asked asked one.1 other.1

-- some ways without those that are like this one
abbrev pub unlike : List Bool → Way → List Way → List Way
unlike asked way [] = []
unlike asked way (other ∷ others) =
    elim (alike asked way other) [ true ↦ unlike asked way others | false ↦ other ∷ unlike asked way others ]

-- of ways that are alike the first alone
abbrev pub firsts : List Bool → List Way → List Way
firsts asked [] = []
firsts asked (way ∷ ways) = way ∷ unlike asked way (firsts asked ways)

-- some way is like this one
abbrev pub HasAlike : List Bool → List Way → Way → Type 0
HasAlike asked [] way = ⊥
HasAlike asked (other ∷ others) way = (alike asked other way ≡ true) ⊎ HasAlike asked others way

-- as many ways, each like that of the other list
abbrev pub AreAlike : List Bool → List Way → List Way → Type 0
AreAlike asked [] [] = Unit {0}
AreAlike asked (one ∷ ones) (other ∷ others) = (alike asked one other ≡ true) × AreAlike asked ones others
AreAlike asked _ _ = ⊥
