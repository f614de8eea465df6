-- What is known of the line that `s` makes of one line, by the pattern that it looks for and those that the line is known to match. It holds of
-- whatever is put in place of the matches, and of whichever of them are replaced.
use Rattle.std.specs.Prelude.{ℕ, Bool, true, false, ◌&&◌, List, [], map, Option, Some, None, Ok, Err, if◌then◌else◌}
use Rattle.std.specs.List.{list_any, filter}
use Rattle.bre_parse.specs.Tree.{Tree}
use Rattle.bre_parse.specs.Grammar.{pattern}
use Rattle.bre_parse.specs.TextHeads.{untouched, head_asked, head_matches, head_clashes}
use Rattle.bre_parse.specs.Words.{keeps_word}
use Rattle.zones.specs.Zone.{Bounds}
use Rattle.ed_rules.specs.facts.Facts.{Facts, same_text, tells}
use Rattle.ed_rules.specs.facts.EditedFacts.{Fresh}

-- the patterns that the line x is known to match
abbrev pub matched_at : Bounds → Facts → (x : ℕ) → (patterns : List (List ℕ)) → List (List ℕ)
matched_at zone facts x patterns = filter (λ q. tells zone facts x q true) patterns

-- HEADS

-- the bytes with which each line begins that the pattern matches; a text that is no pattern matches none
abbrev pub asked_head : (text : List ℕ) → List ℕ
asked_head text = elim (pattern text) [ Ok tree ↦ head_asked tree | Err fault ↦ [] ]

-- With these the new line begins: what no match touches of those that the old one had by the patterns that match it.
abbrev pub heads_left : (replaced : Tree) → (matched : List (List ℕ)) → List (List ℕ)
heads_left replaced matched = map (λ q. untouched replaced (asked_head q)) matched

-- whether a line with these heads matches a pattern, where they tell it
abbrev pub told_by_heads : (heads : List (List ℕ)) → Tree → Option Bool
told_by_heads heads tree =
    if list_any (λ head. head_matches head tree) heads then Some true
    else if list_any (λ head. head_clashes head tree) heads then Some false
    else None

-- WORDS

-- a word that the old line had, and that shares no byte with what is replaced
abbrev pub told_by_word : (replaced : Tree) → (matched : List (List ℕ)) → (text : List ℕ) → Tree → Option Bool
told_by_word replaced matched text tree = if list_any (λ q. same_text q text) matched && keeps_word replaced tree then Some true else None

-- TOGETHER

-- the first of two that says something
abbrev pub or_else : Option Bool → Option Bool → Option Bool
or_else None other = other
or_else (Some answer) other = Some answer

abbrev pub left_by : (replaced : Tree) → (heads matched : List (List ℕ)) → Fresh
left_by replaced heads matched text = elim (pattern text) [
  | Ok tree ↦ or_else (told_by_heads heads tree) (told_by_word replaced matched text tree)
  | Err fault ↦ None
]

-- Where it isn't known which pattern is looked for, nothing is.
abbrev pub left_if : (sought : Option (List ℕ)) → (matched : List (List ℕ)) → Fresh
left_if None matched = λ text. None
left_if (Some sought) matched = elim (pattern sought) [
  | Ok replaced ↦ left_by replaced (heads_left replaced matched) matched
  | Err fault ↦ λ text. None
]
