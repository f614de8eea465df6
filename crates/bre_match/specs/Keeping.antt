-- What is kept of some ways: the first of those that are alike, and their order.
use Rattle.std.specs.Prelude.{◌≡◌, ◌≤◌, ℕ, Bool, true, List, ◌++◌, map, slice_set}
use Rattle.bre_parse.specs.Tree.{Tree, Then, BackReference, Group, Repeat}
use Rattle.bre_parse.specs.Ways.{Way}
use Rattle.bre_match.specs.Alike.{firsts}
use Rattle.bre_match.specs.Narrowing.{weight}
use Rattle.bre_match.specs.Runs.{at_item}

-- The groups that are asked for, for each whether it is, with those to which a part refers.
abbrev pub asked_by : Tree → List Bool → List Bool
asked_by (Then first rest) asked = asked_by rest (asked_by first asked)
asked_by (BackReference group) asked = slice_set asked group true
asked_by (Group group content) asked = asked_by content asked
asked_by (Repeat least most content) asked = asked_by content asked
asked_by _ asked = asked

-- Those ways that are kept of all: none that is the first of its like is left out, nor is their order changed.
pub record KeepsFirsts (asked : List Bool) (all kept : List Way) : Type 0 where
  pub same : firsts asked kept ≡ firsts asked all
  pub fewer : (f : Way → ℕ) → weight f kept ≤ weight f all

-- Before what was left come the ways of a part that are kept, each to meet this item next.
abbrev pub Follows : List Bool → (all : List Way) → (item : ℕ) → (before after : List (ℕ × Way)) → Type 0
Follows asked all item before after =
    (kept : List Way) × KeepsFirsts asked all kept × (after ≡ map (at_item item) kept ++ before)
