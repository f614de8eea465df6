-- What is known of lines after an edit: the lines from one to another give way to new ones.
use Rattle.std.specs.Prelude.{◌≡◌, ℕ, ◌==◌, ◌+◌, ◌⊎◌, ℤ, pos, negsuc, ◌+ℤ◌, ◌<ℤ◌, Bool, true, false, ◌&&◌, ◌||◌, not, nat_eq, List, [], ◌∷◌, ◌++◌, map, Option, Some, None, flat_map, if◌then◌else◌}
use Rattle.std.specs.List.{list_all, list_any, filter}
use Rattle.std.specs.Ordering.{int_eq}
use Rattle.zones.specs.Name as name
use Rattle.zones.specs.Zone.{Bounds}
use Rattle.zones.specs.Known.{known}
use Rattle.ed_syntax.specs.meaning.Values.{matches}
use Rattle.ed_rules.specs.facts.Facts.{LineFact, Stretch, Facts, Point, at, point, end, le, below, may_hold_lines, is_clear, tells, told, differ}

-- of each pattern whether a new line matches it, where that is known
abbrev pub Fresh : Type 0
Fresh = (pattern : List ℕ) → Option Bool

-- An edit as a rule knows of it: the lines from one place to another, which is one less where lines are only put in, and what is known of
-- each line that takes their place; where not even the number of those is known, nothing.
pub record Edit : Type 0 where
  pub from : Point
  pub to : Point
  pub fresh : Option (List Fresh)

-- the lines that give way, from one place to another, apart from the new ones
pub record Between : Type 0 where
  pub from : Point
  pub to : Point

abbrev pub edit_of : Between → Option (List Fresh) → Edit
edit_of gap fresh = record { from = gap.from; to = gap.to; fresh = fresh }

abbrev pub is_no : Option Bool → Bool
is_no (Some false) = true
is_no _ = false

-- none of these lines matches the pattern
abbrev pub none_match : (pattern : List ℕ) → List Fresh → Bool
none_match pattern fresh = list_all (λ f. is_no (f pattern)) fresh

abbrev pub is_free : (pattern : List ℕ) → Option (List Fresh) → Bool
is_free pattern None = false
is_free pattern (Some fresh) = none_match pattern fresh

-- none but the last of these lines matches the pattern
abbrev pub all_but_last : (pattern : List ℕ) → List Fresh → Bool
all_but_last pattern [] = true
all_but_last pattern (f ∷ []) = true
all_but_last pattern (f ∷ g ∷ fresh) = is_no (f pattern) && all_but_last pattern (g ∷ fresh)

abbrev pub is_free_before_last : (pattern : List ℕ) → Option (List Fresh) → Bool
is_free_before_last pattern None = false
is_free_before_last pattern (Some fresh) = all_but_last pattern fresh

-- one line gives way
abbrev pub is_single : Bounds → Edit → Bool
is_single zone e = int_eq e.from.plus (pos 0) && (le zone e.from e.to (pos 0) && le zone e.to e.from (pos 0))

-- lines are put in, and none gives way
abbrev pub puts_in : Edit → Bool
puts_in e = e.from.name == e.to.name && int_eq e.from.plus (e.to.plus +ℤ pos 1)

-- the line of the letter x is not one of those that give way
abbrev pub stays : Bounds → Facts → Edit → (x : ℕ) → Bool
stays zone facts e x =
    puts_in e || (below zone (at x) e.from || (below zone e.to (at x) || (is_single zone e && differ zone facts x e.from.name)))

-- no line between x and y gives way: they are on one side, or what gives way matches what no line between them does
abbrev pub is_outside : Bounds → Facts → Edit → (patterns : List (List ℕ)) → (x y : Point) → Bool
is_outside zone facts e patterns x y =
    below zone e.to x ||
    (below zone y e.from || (is_single zone e && list_any (λ q. tells zone facts e.from.name q true &&
    is_clear zone facts x y q) patterns))

-- the stretch was clear, and is as it was but for lines that don't match; or what is left on either side of such lines was clear
abbrev pub stretch_stays : Bounds → Facts → Edit → (patterns : List (List ℕ)) → Stretch → Bool
stretch_stays zone facts e patterns s =
    let x = point s.after in
    let y = point s.before in
    let free = is_free s.pattern e.fresh in
    may_hold_lines zone x y &&
    ((is_clear zone facts x y s.pattern && (free || is_outside zone facts e patterns x y)) ||
    (free && (below zone x e.from && (below zone e.to y && (is_clear zone facts x e.from s.pattern &&
    is_clear zone facts e.to y s.pattern)))))

-- from x to the current line, which is then the last new one
abbrev pub clear_before : Bounds → Facts → Edit → Stretch → Bool
clear_before zone facts e s =
    is_free_before_last s.pattern e.fresh && (below zone (point s.after) e.from && is_clear zone facts (point s.after) e.from s.pattern)

-- from the current line to y
abbrev pub clear_after : Bounds → Facts → Edit → Stretch → Bool
clear_after zone facts e s = below zone e.to (point s.before) && is_clear zone facts e.to (point s.before) s.pattern

-- all stretches from one of these names to one of those
abbrev pub stretches : (afters befores : List ℕ) → (patterns : List (List ℕ)) → List Stretch
stretches afters befores patterns =
    flat_map (λ p. flat_map (λ x. map (λ y. record { after = x; before = y; pattern = p }) befores) afters) patterns

abbrev pub clear_edited : Bounds → Facts → Edit → (kept : List ℕ) → (patterns : List (List ℕ)) → List Stretch
clear_edited zone facts e kept patterns =
    filter (stretch_stays zone facts e patterns) (stretches (name.zero ∷ kept) (end ∷ kept) patterns) ++
    (filter (clear_before zone facts e) (stretches (name.zero ∷ kept) (name.current_line ∷ []) patterns) ++
    filter (clear_after zone facts e) (stretches (name.current_line ∷ []) (end ∷ kept) patterns))

-- what is known of the last of these lines, as facts of a name
abbrev pub told_fact : ℕ → (pattern : List ℕ) → Option Bool → List LineFact
told_fact x pattern None = []
told_fact x pattern (Some answer) = (record { name = x; pattern = pattern; matches = answer }) ∷ []

abbrev pub of_last : ℕ → (patterns : List (List ℕ)) → List Fresh → List LineFact
of_last x patterns [] = []
of_last x patterns (f ∷ []) = flat_map (λ p. told_fact x p (f p)) patterns
of_last x patterns (f ∷ g ∷ fresh) = of_last x patterns (g ∷ fresh)

abbrev pub of_last_known : ℕ → (patterns : List (List ℕ)) → Option (List Fresh) → List LineFact
of_last_known x patterns None = []
of_last_known x patterns (Some fresh) = of_last x patterns fresh

-- The last line stays where it is after all that give way, and is the last new line where it isn't after them.
abbrev pub last_edited : Bounds → Facts → Edit → (patterns : List (List ℕ)) → List LineFact
last_edited zone facts e patterns =
    if below zone e.to (at name.last_line) then filter (λ f. f.name == name.last_line) facts.lines
    else if le zone (at name.last_line) e.to (pos 0) then of_last_known name.last_line patterns e.fresh
    else []

abbrev pub lines_edited : Bounds → Facts → Edit → (kept : List ℕ) → (patterns : List (List ℕ)) → List LineFact
lines_edited zone facts e kept patterns =
    filter (λ f. list_any (nat_eq f.name) kept) facts.lines ++
    (last_edited zone facts e patterns ++ of_last_known name.current_line patterns e.fresh)

-- The facts after an edit, of these letters, which stay, of the last line and of the current one; these patterns are looked at.
abbrev pub edited : Bounds → Facts → Edit → (kept : List ℕ) → (patterns : List (List ℕ)) → Facts
edited zone facts e kept patterns = record {
  lines = lines_edited zone facts e kept patterns;
  clear = clear_edited zone facts e kept patterns;
}

-- WHAT AN EDIT DOES TO NUMBERS

-- the number of a line that stays: before the lines a to b it is as it was, after them it goes with n lines in their place
abbrev pub Moves : (a b n : ℕ) → (old new : ℤ) → Type 0
Moves a b n old new = ((old <ℤ pos a) × (new ≡ old)) ⊎ ((pos b <ℤ old) × (new +ℤ pos (b + 1) ≡ old +ℤ pos (n + a)))

-- The current line is the last of n new ones or, where there is none, the one after those that gave way, or the last.
abbrev pub IsLeft : (a n count current : ℕ) → Type 0
IsLeft a n count current = (current + 1 ≡ a + n) ⊎ ((n ≡ 0) × ((current ≡ a) ⊎ ((current + 1 ≡ a) × (count ≡ current))))

-- THE EDITS OF SOME COMMANDS

-- the patterns that an entered line matches are tested
abbrev pub entered_line : (text : List ℕ) → Fresh
entered_line text pattern = Some (matches pattern text)

-- `d`: the addressed lines give way to none
abbrev pub deletion : Edit
deletion = record { from = at name.first_address; to = at name.second_address; fresh = Some [] }

-- `c`: they give way to the lines that are entered
abbrev pub changing : (text : List (List ℕ)) → Edit
changing text = record { from = at name.first_address; to = at name.second_address; fresh = Some (map entered_line text) }

-- `j`: they give way to one line of which nothing is known
abbrev pub joining : Edit
joining = record { from = at name.first_address; to = at name.second_address; fresh = Some ((λ pattern. None) ∷ []) }

-- `s` of one line: it gives way to what comes of it
abbrev pub rewriting : (fresh : Option (List Fresh)) → Edit
rewriting fresh = record { from = at name.first_address; to = at name.second_address; fresh = fresh }

-- after the line x none gives way to others
abbrev pub adding : (x : ℕ) → (fresh : Option (List Fresh)) → Edit
adding x fresh = record { from = record { name = x; plus = pos 1 }; to = at x; fresh = fresh }

-- `a`: those that are entered come after the addressed line
abbrev pub appending : (text : List (List ℕ)) → Edit
appending text = adding name.first_address (Some (map entered_line text))

-- `r`: any number of them, of which nothing is known
abbrev pub reading : Edit
reading = adding name.first_address None

-- `t`: a copy of one line, of which the same is known, comes after the target; of several lines nothing is known
abbrev pub copying : Bounds → Facts → Edit
copying zone facts =
    adding name.target_address
    (if known zone name.second_address name.first_address (pos 0) then Some (told zone facts name.second_address ∷ []) else None)

-- `i`: before the addressed line none gives way to those that are entered
abbrev pub inserting : (text : List (List ℕ)) → Edit
inserting text = record {
  from = at name.first_address;
  to = record { name = name.first_address; plus = negsuc 0 };
  fresh = Some (map entered_line text);
}
