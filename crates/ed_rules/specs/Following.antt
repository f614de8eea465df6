-- What a run that follows single lines knows of them while addresses are evaluated (XCU ed, "Addresses in ed"). Bounds and facts change at
-- once: nothing is looked up between.
use Rattle.std.specs.Prelude.{ℕ, ◌==◌, ◌-◌, ℤ, Bool, true, false, ◌&&◌, ◌||◌, nat_lt, List, [], ◌∷◌, map, Option, Some, None}
use Rattle.std.specs.List.{filter}
use Rattle.zones.specs.Zone.{Bounds}
use Rattle.zones.specs.Steps.{after_set}
use Rattle.ed_rules.specs.declared.following.Way.{Way}
use Rattle.ed_rules.specs.declared.following.Way.TheVariants.{Forward, Backward}
use Rattle.ed_rules.specs.declared.state.State.{State}
use Rattle.ed_rules.specs.Choices.{Choice}
use Rattle.ed_rules.specs.Marks.{is_sure}
use Rattle.ed_rules.specs.Texts.{with_texts}
use Rattle.ed_rules.specs.facts.Facts.{LineFact, Stretch, Facts, end}
use Rattle.ed_rules.specs.facts.FoundLines.{Known, without, is_witnessed, searched_forward, searched_backward}
use Rattle.ed_rules.specs.facts.AssignedFacts.{assigned, moved}

-- ANOTHER LINE

-- the patterns that facts speak of
abbrev pub patterns_of : Facts → List (List ℕ)
patterns_of facts = with_texts (map (λ (s : Stretch). s.pattern) facts.clear) (with_texts (map (λ (f : LineFact). f.pattern) facts.lines) [])

-- x becomes another line: of what was known of its old one nothing is left
abbrev pub facts_without : (follows : Bool) → (x : ℕ) → Facts → Facts
facts_without true x facts = without x facts
facts_without false x facts = facts

-- x becomes y + c: without an offset all that is known of y's line is known of x's, else those of its stretches that only got shorter; the
-- patterns are those of the facts alone
abbrev pub facts_set : (follows : Bool) → (x y : ℕ) → ℤ → Bounds → Facts → Facts
facts_set true x y c zone facts = (moved x c (assigned x y (patterns_of facts) zone facts)).facts
facts_set false x y c zone facts = facts

-- a name of the zone becomes another one plus a number
abbrev pub set_to : (x y : ℕ) → ℤ → State → State
set_to x y c s = record s { zone = after_set s.zone x y c; facts = facts_set s.follows x y c s.zone s.facts }

-- SEARCHES

-- a line that is followed is known to match the pattern
abbrev pub is_followed : State → (pattern : List ℕ) → Bool
is_followed s text = s.follows && is_witnessed s.facts text

-- the name is that of no letter, or of a sure one
abbrev pub is_spoken : List Bool → (x : ℕ) → Bool
is_spoken marks x = nat_lt x 6 || is_sure marks (x - 6)

abbrev pub may_name : List Bool → (x : ℕ) → Bool
may_name marks x = nat_lt x 32 && is_spoken marks x

-- the facts that name no letter but sure ones: of the others a zone says nothing, and a search leaves it so
abbrev pub spoken_facts : List Bool → Facts → Facts
spoken_facts marks facts = record {
  lines = filter (λ f. may_name marks f.name) facts.lines;
  clear = filter (λ s. (s.after == end || may_name marks s.after) && (s.before == end || may_name marks s.before)) facts.clear;
}

-- the pattern, where one alone may be looked for
abbrev pub only_pattern : List Choice → Option (List ℕ)
only_pattern [] = None
only_pattern (None ∷ possible) = None
only_pattern (Some text ∷ []) = Some text
only_pattern (Some text ∷ other ∷ possible) = None

-- the line that a search finds, where it is known that some line matches
abbrev pub found_by : Way → (x : ℕ) → (pattern : List ℕ) → Bounds → Facts → Known
found_by Forward x pattern zone facts = searched_forward x pattern zone facts
found_by Backward x pattern zone facts = searched_backward x pattern zone facts
