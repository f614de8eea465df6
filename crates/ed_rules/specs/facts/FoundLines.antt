-- What a zone with facts knows of the line that a search finds (XCU ed, "Addresses in ed").
use Rattle.std.specs.Prelude.{ℕ, ◌==◌, pos, negsuc, Bool, true, ◌&&◌, not, List, [], ◌∷◌, map, find, Some, None, if◌then◌else◌}
use Rattle.std.specs.List.{list_any, filter}
use Rattle.zones.specs.Name as name
use Rattle.zones.specs.Zone.{Bounds}
use Rattle.zones.specs.Known.{known}
use Rattle.zones.specs.Steps.{after_forget, after_guard, after_set}
use Rattle.ed_rules.specs.facts.Facts.{LineFact, Stretch, Facts, at, point, end, le, same_text, is_clear}

-- a zone with facts
pub record Known : Type 0 where
  pub zone : Bounds
  pub facts : Facts

abbrev pub known_as : Bounds → Facts → Known
known_as zone facts = record { zone = zone; facts = facts }

-- no fact of this name
abbrev pub without : ℕ → Facts → Facts
without x facts = record {
  lines = filter (λ f. not (f.name == x)) facts.lines;
  clear = filter (λ s. not (s.after == x) && not (s.before == x)) facts.clear;
}

-- the line x matches the pattern, or it doesn't
abbrev pub with_answer : (x : ℕ) → (pattern : List ℕ) → (matches : Bool) → Facts → Facts
with_answer x pattern matches facts = record facts { lines = (record { name = x; pattern = pattern; matches = matches }) ∷ facts.lines }

abbrev pub with_match : (x : ℕ) → (pattern : List ℕ) → Facts → Facts
with_match x pattern facts = with_answer x pattern true facts

abbrev pub with_stretch : (after before : ℕ) → (pattern : List ℕ) → Facts → Facts
with_stretch after before pattern facts = record facts {
  clear = (record {
    after = after;
    before = before;
    pattern = pattern;
  }) ∷ facts.clear;
}

-- the name is that of some line
abbrev pub some_line : ℕ → Bounds → Bounds
some_line x zone = after_guard (after_guard (after_forget zone x) name.zero x (negsuc 0)) x name.last_line (pos 0)

-- a fact says that its line matches the pattern
abbrev pub matches_it : List ℕ → LineFact → Bool
matches_it pattern f = same_text f.pattern pattern && f.matches

abbrev pub is_witnessed : Facts → (pattern : List ℕ) → Bool
is_witnessed facts pattern = list_any (matches_it pattern) facts.lines

-- the names of the lines that are known to match
abbrev pub witnesses : Facts → (pattern : List ℕ) → List ℕ
witnesses facts pattern = map (λ f. f.name) (filter (matches_it pattern) facts.lines)

-- no line but x matches
abbrev pub is_only : Bounds → Facts → (pattern : List ℕ) → (x : ℕ) → Bool
is_only zone facts pattern x = is_clear zone facts (at name.zero) (at x) pattern && is_clear zone facts (at x) (point end) pattern

-- x is at most each of these, and at least each of these
abbrev pub at_most_each : (x : ℕ) → List ℕ → Bounds → Bounds
at_most_each x [] zone = zone
at_most_each x (y ∷ ys) zone = at_most_each x ys (after_guard zone x y (pos 0))

abbrev pub at_least_each : (x : ℕ) → List ℕ → Bounds → Bounds
at_least_each x [] zone = zone
at_least_each x (y ∷ ys) zone = at_least_each x ys (after_guard zone y x (pos 0))

-- FORWARD

-- where the stretches end that begin at `low` or before it
abbrev pub ends_from : Bounds → (low : ℕ) → (pattern : List ℕ) → Stretch → Bool
ends_from zone low pattern s = same_text s.pattern pattern && (not (s.before == end) && le zone (point s.after) (at low) (pos 0))

abbrev pub ends_after : Bounds → Facts → (low : ℕ) → (pattern : List ℕ) → List ℕ
ends_after zone facts low pattern = map (λ s. s.before) (filter (ends_from zone low pattern) facts.clear)

-- the first line after `low` that matches: it isn't after any of `highs`
abbrev pub first_after : (low : ℕ) → (highs : List ℕ) → (x : ℕ) → (pattern : List ℕ) → Bounds → Facts → Known
first_after low highs x pattern zone facts =
    known_as (at_least_each x (ends_after zone facts low pattern) (at_most_each x highs (after_guard zone low x (negsuc 0))))
    (with_match x pattern (with_stretch low x pattern facts))

abbrev pub is_ahead : Bounds → ℕ → Bool
is_ahead zone v = known zone name.current_line v (negsuc 0)

abbrev pub found_ahead : (x : ℕ) → (pattern : List ℕ) → Bounds → Facts → Known
found_ahead x pattern zone facts =
    if list_any (is_ahead zone) (witnesses facts pattern)
    then first_after name.current_line (filter (is_ahead zone) (witnesses facts pattern)) x pattern zone facts
    else if is_clear zone facts (at name.current_line) (point end) pattern
    then first_after name.zero (witnesses facts pattern) x pattern zone facts
    else known_as zone (with_match x pattern facts)

-- the only line that matches
abbrev pub found_only : (v x : ℕ) → (pattern : List ℕ) → Bounds → Facts → Known
found_only v x pattern zone facts = known_as (after_set zone x v (pos 0)) (with_match x pattern facts)

abbrev pub searched_forward : (x : ℕ) → (pattern : List ℕ) → Bounds → Facts → Known
searched_forward x pattern zone facts =
    let there = some_line x zone in
    let others = without x facts in
    elim (find (is_only there others pattern) (witnesses others pattern)) [
      | Some v ↦ found_only v x pattern there others
      | None ↦ found_ahead x pattern there others
    ]

-- BACKWARD

-- where the stretches begin that end at `high` or after it
abbrev pub begins_to : Bounds → (high : ℕ) → (pattern : List ℕ) → Stretch → Bool
begins_to zone high pattern s = same_text s.pattern pattern && (not (s.after == end) && le zone (point high) (point s.before) (pos 0))

abbrev pub begins_before : Bounds → Facts → (high : ℕ) → (pattern : List ℕ) → List ℕ
begins_before zone facts high pattern = map (λ s. s.after) (filter (begins_to zone high pattern) facts.clear)

-- the last line before `high` that matches: it isn't before any of `lows`
abbrev pub last_before : (high : ℕ) → (lows : List ℕ) → (x : ℕ) → (pattern : List ℕ) → (start zone : Bounds) → Facts →
    Known
last_before high lows x pattern start zone facts =
    known_as (at_most_each x (begins_before start facts high pattern) (at_least_each x lows zone))
    (with_match x pattern (with_stretch x high pattern facts))

abbrev pub is_behind : Bounds → ℕ → Bool
is_behind zone v = known zone v name.current_line (negsuc 0)

abbrev pub found_behind : (x : ℕ) → (pattern : List ℕ) → Bounds → Facts → Known
found_behind x pattern zone facts =
    if list_any (is_behind zone) (witnesses facts pattern) then
    last_before name.current_line (filter (is_behind zone)
    (witnesses facts pattern)) x pattern zone (after_guard zone x name.current_line (negsuc 0)) facts
    else if is_clear zone facts (at name.zero) (at name.current_line) pattern
    then last_before end (witnesses facts pattern) x pattern zone zone facts
    else known_as zone (with_match x pattern facts)

abbrev pub searched_backward : (x : ℕ) → (pattern : List ℕ) → Bounds → Facts → Known
searched_backward x pattern zone facts =
    let there = some_line x zone in
    let others = without x facts in
    elim (find (is_only there others pattern) (witnesses others pattern)) [
      | Some v ↦ found_only v x pattern there others
      | None ↦ found_behind x pattern there others
    ]
