-- What is known of lines after `m`: lines are carried to another place, and letters go with them.
use Rattle.std.specs.Prelude.{ℕ, ◌+◌, ◌-◌, min, pos, Bool, ◌&&◌, ◌||◌, not, nat_le, nat_lt, nat_eq, ◌==◌, List, [], ◌∷◌, ◌++◌, filter, flat_map, if◌then◌else◌}
use Rattle.std.specs.List.{list_any}
use Rattle.zones.specs.Name as name
use Rattle.zones.specs.Zone.{Bounds}
use Rattle.ed_rules.specs.facts.Facts.{LineFact, Stretch, Facts, at, point, end, le, below, may_hold_lines, is_clear, told}
use Rattle.ed_rules.specs.facts.EditedFacts.{stretches, told_fact}

-- where the line i comes to, as the lines after a up to b are carried to a place among the others
abbrev pub carried_to : (a b place i : ℕ) → ℕ
carried_to a b place i =
    if nat_le i (min a place) then i
    else if nat_lt a i && nat_le i b then place + (i - a)
    else if nat_le place a then (if nat_le i a then i + (b - a) else i)
    else (if nat_le i (place + (b - a)) then i - (b - a) else i)

-- no line matches at all, or the stretch is before all that is carried over, or after it
abbrev pub stretch_carried : Bounds → Facts → Stretch → Bool
stretch_carried zone facts s =
    let x = point s.after in
    let y = point s.before in
    may_hold_lines zone x y &&
    (is_clear zone facts (at name.zero) (point end) s.pattern ||
    (is_clear zone facts x y s.pattern &&
    ((below zone y (at name.first_address) && le zone y (at name.target_address) (pos 0)) ||
    (below zone (at name.second_address) x && below zone (at name.target_address) x))))

-- the last line stays where it is after all that is carried, and its place
abbrev pub last_carried : Bounds → Facts → List LineFact
last_carried zone facts =
    if below zone (at name.second_address) (at name.last_line) && below zone (at name.target_address) (at name.last_line) then
    filter (λ f. f.name == name.last_line) facts.lines
    else []

-- the facts of these letters, of the last line, and of the current one, which is the last one carried
abbrev pub carried_facts : Bounds → Facts → (kept : List ℕ) → (patterns : List (List ℕ)) → Facts
carried_facts zone facts kept patterns = record {
  lines = filter (λ f. list_any (nat_eq f.name) kept) facts.lines ++
      (last_carried zone facts ++ flat_map (λ p. told_fact name.current_line p (told zone facts name.second_address p)) patterns);
  clear = filter (stretch_carried zone facts) (stretches (name.zero ∷ kept) (end ∷ kept) patterns);
}
