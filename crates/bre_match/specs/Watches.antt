-- What several patterns come to in one text, side by side: for each whether a match of it has ended, or else the marks of its column.
use Rattle.std.specs.Prelude.{◌≡◌, ℕ, Bool, true, false, not, ◌&&◌, ◌||◌, List, [], ◌∷◌, map, Option, Some, None, is_some, if◌then◌else◌}
use Rattle.bre_parse.specs.Bre.{bre_tree}
use Rattle.bre_parse.specs.Groups.{refers}
use Rattle.bre_parse.specs.WellFormed.{repeats_in_order}
use Rattle.bre_match.specs.declared.witness.Answer.{Answer}
use Rattle.bre_match.specs.Parts.{Part, part_of}
use Rattle.bre_match.specs.States.{transition}
use Rattle.bre_match.specs.ByteKinds.{reaches_top}

-- The pattern has no back-reference, the bounds of its repeats are in order, as of all that are read, and no range goes up to the last byte,
-- so that this one stands for all numbers above.
abbrev pub IsPlain : Answer → Type 0
IsPlain answer =
    (refers (bre_tree answer.pattern.now) ≡ false) × (repeats_in_order (bre_tree answer.pattern.now) ≡ true)
    × (reaches_top (bre_tree answer.pattern.now) ≡ false)

-- of a pattern before a place of a text: nothing more, where a match has ended before it, or else the row of marks
abbrev pub Watch : Type 0
Watch = Option (List (Option ℕ))

-- after a transition
abbrev pub watch_after : Bool × List (Option ℕ) → Watch
watch_after answer = if answer.0 then None else Some answer.1

abbrev pub next_watch : Part → Watch → List ℕ → (place : ℕ) → Watch
next_watch part None text place = None
next_watch part (Some row) text place = watch_after (transition part row text place)

-- of a list that is too short the rest counts as matched
abbrev pub first_watch : List Watch → Watch
first_watch [] = None
first_watch (watch ∷ watches) = watch

abbrev pub other_watches : List Watch → List Watch
other_watches [] = []
other_watches (watch ∷ watches) = watches

-- of each pattern, after the place
abbrev pub next_watches : List Answer → List Watch → List ℕ → (place : ℕ) → List Watch
next_watches [] watches text place = []
next_watches (answer ∷ answers) watches text place =
    next_watch (part_of (bre_tree answer.pattern.now)) (first_watch watches) text place
    ∷ next_watches answers (other_watches watches) text place

-- of each pattern, before the first place
abbrev pub first_watches : List Answer → List Watch
first_watches answers = map (λ answer. Some []) answers

-- after the text's end: the pattern has a match, or has none, as its answer says
abbrev pub is_as_said : (matches : Bool) → Watch → Bool
is_as_said matches watch = if matches then not (is_some watch) else is_some watch

-- a match has ended of a pattern that is to have none
abbrev pub is_out : (matches : Bool) → Watch → Bool
is_out matches watch = not matches && not (is_some watch)

-- each of the patterns is as is said
abbrev pub are_as_said : List Answer → List Watch → Bool
are_as_said [] watches = true
are_as_said (answer ∷ answers) watches = is_as_said answer.matches (first_watch watches) && are_as_said answers (other_watches watches)

-- one of them is out
abbrev pub is_ruled_out : List Answer → List Watch → Bool
is_ruled_out [] watches = false
is_ruled_out (answer ∷ answers) watches = is_out answer.matches (first_watch watches) || is_ruled_out answers (other_watches watches)
