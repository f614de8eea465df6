-- The edit of a command in parts, as the calls take it: the lines that give way, and what is known of each pattern in the new ones.
use Rattle.std.specs.Prelude.{ℕ, ◌==◌, pos, Bool, true, false, ◌&&◌, ◌||◌, not, nat_eq, List, [], ◌∷◌, ◌++◌, map, flat_map, Option, Some, None, if◌then◌else◌}
use Rattle.std.specs.List.{list_all, list_any, filter}
use Rattle.bre_parse.specs.Bre.{bre_tree}
use Rattle.zones.specs.Name as name
use Rattle.zones.specs.Zone.{Bounds}
use Rattle.ed_rules.specs.declared.line_facts.new_lines.NewLines.{NewLines}
use Rattle.ed_rules.specs.declared.line_facts.new_lines.NewLines.TheVariants.{Gone, Entered, Copied, Rewritten, One, Any}
use Rattle.ed_rules.specs.declared.line_facts.new_lines.Tested.{Tested}
use Rattle.ed_rules.specs.declared.line_facts.rewritten.RewrittenLine.{RewrittenLine}
use Rattle.ed_rules.specs.declared.line_facts.edited.Look.{Look}
use Rattle.ed_rules.specs.declared.line_facts.edited.Kind.{Kind}
use Rattle.ed_rules.specs.declared.line_facts.edited.Kind.TheVariants.{Staying, Before, After, Carried, Spared}
use Rattle.ed_rules.specs.facts.Facts.{LineFact, Stretch, Facts, Point, same_text, at, point, end, le, below, may_hold_lines, is_clear, told}
use Rattle.ed_rules.specs.facts.CarriedFacts.{stretch_carried}
use Rattle.ed_rules.specs.facts.RewrittenLine.{matched_at, left_by}
use Rattle.ed_rules.specs.facts.SubstitutedFacts.{is_spared}
use Rattle.ed_rules.specs.facts.EditedFacts.{Fresh, Between, edit_of, is_free, is_free_before_last, is_single, told_fact, entered_line}

-- NEW LINES

-- what is known of the line that `s` makes
abbrev pub fresh_left : RewrittenLine → Fresh
fresh_left line = left_by (bre_tree line.replaced) line.heads.items line.matched.items

abbrev pub fresh_if : Option RewrittenLine → Fresh
fresh_if None = λ pattern. None
fresh_if (Some line) = fresh_left line

-- what is known of the lines that take the place of others
abbrev pub fresh_of : NewLines → Option (List Fresh)
fresh_of Gone = Some []
fresh_of (Entered text) = Some (map entered_line text.now)
fresh_of (Copied old) = Some (told old.now.zone old.now.facts name.second_address ∷ [])
fresh_of (Rewritten line) = Some (fresh_left line.now ∷ [])
fresh_of One = Some ((λ pattern. None) ∷ [])
fresh_of Any = None

-- what is known of the last of these lines
abbrev pub last_fresh : (pattern : List ℕ) → List Fresh → Option Bool
last_fresh pattern [] = None
last_fresh pattern (f ∷ []) = f pattern
last_fresh pattern (f ∷ g ∷ fresh) = last_fresh pattern (g ∷ fresh)

abbrev pub last_known : (pattern : List ℕ) → Option (List Fresh) → Option Bool
last_known pattern None = None
last_known pattern (Some fresh) = last_fresh pattern fresh

-- what is known of a pattern in these lines
abbrev pub tested : (pattern : List ℕ) → Option (List Fresh) → Tested
tested pattern fresh = record {
  free = is_free pattern fresh;
  free_before_last = is_free_before_last pattern fresh;
  last = last_known pattern fresh;
}

-- the same by whether each line matches
abbrev pub is_yes : Option Bool → Bool
is_yes (Some true) = true
is_yes _ = false

abbrev pub none_but_last : List Bool → Bool
none_but_last [] = true
none_but_last (b ∷ []) = true
none_but_last (b ∷ c ∷ answers) = not b && none_but_last (c ∷ answers)

abbrev pub last_of : List Bool → Option Bool
last_of [] = None
last_of (b ∷ []) = Some b
last_of (b ∷ c ∷ answers) = last_of (c ∷ answers)

abbrev pub tested_by : (answers : List Bool) → Tested
tested_by answers = record { free = list_all (λ b. not b) answers; free_before_last = none_but_last answers; last = last_of answers }

-- the stretches of a pattern
abbrev pub clear_of : (pattern : List ℕ) → Facts → List Stretch
clear_of pattern facts = filter (λ s. same_text s.pattern pattern) facts.clear

-- the patterns that the line which gives way is known to match, if it is one
abbrev pub matched_in : Bounds → Facts → Between → (patterns : List (List ℕ)) → List (List ℕ)
matched_in zone facts gap patterns =
    if is_single zone (edit_of gap None) then matched_at zone facts gap.from.name patterns else []

-- WHAT IS LEFT OF EACH PATTERN

-- what is at hand of a pattern
abbrev pub look_at : Facts → Option (List Fresh) → (pattern : List ℕ) → Look
look_at facts fresh pattern = record {
  pattern = pattern;
  own = record { lines = []; clear = clear_of pattern facts };
  tested = tested pattern fresh;
}

-- no line between two places matches the pattern
abbrev pub is_clear_of : Bounds → Look → (x y : Point) → Bool
is_clear_of zone look x y = is_clear zone look.own x y look.pattern

-- no line between two places gives way, by the patterns that the line which gives way is known to match
abbrev pub is_outside_by : Bounds → Facts → Between → (same : List (List ℕ)) → (x y : Point) → Bool
is_outside_by zone facts gap same x y = below zone gap.to x || (below zone y gap.from || list_any (λ q. is_clear zone facts x y q) same)

-- what is left on either side was clear
abbrev pub is_joined_by : Bounds → Between → Look → (x y : Point) → Bool
is_joined_by zone gap look x y =
    look.tested.free && (below zone x gap.from && (below zone gap.to y && (is_clear_of zone look x gap.from && is_clear_of zone look gap.to y)))

unfoldable pub is_kept_by : Bounds → Facts → Between → (same : List (List ℕ)) → Look → (x y : Point) → Bool
is_kept_by zone facts gap same look x y =
    (is_clear_of zone look x y && (look.tested.free || is_outside_by zone facts gap same x y)) || is_joined_by zone gap look x y

-- whether the stretch between two names is left
abbrev pub is_left : Kind → Bounds → Facts → Between → (same : List (List ℕ)) → Look → (after before : ℕ) → Bool
is_left Staying zone facts gap same look after before = may_hold_lines zone (point after) (point before) && is_kept_by zone facts gap same look (point after) (point before)
is_left Before zone facts gap same look after before =
    look.tested.free_before_last && (below zone (point after) gap.from && is_clear_of zone look (point after) gap.from)
is_left After zone facts gap same look after before = below zone gap.to (point before) && is_clear_of zone look gap.to (point before)
is_left Carried zone facts gap same look after before =
    stretch_carried zone look.own (record {
      after = after;
      before = before;
      pattern = look.pattern;
    })
is_left Spared zone facts gap same look after before =
    may_hold_lines zone (point after) (point before) && (is_clear_of zone look (point after) (point before) &&
    (le zone (point before) (at name.first_address) (pos 0) || (le zone (at name.second_address) (point after) (pos 0) ||
    list_all (λ q. is_clear zone facts (point after) (point before) q) same)))

-- the stretches of one pattern that are left from one name
abbrev pub left_from : Kind → Bounds → Facts → Between → (same : List (List ℕ)) → (befores : List ℕ) → Look → (after : ℕ) → List Stretch
left_from kind zone facts gap same befores look after =
    map (λ y. record { after = after; before = y; pattern = look.pattern }) (filter (is_left kind zone facts gap same look after) befores)

abbrev pub left_of : Kind → Bounds → Facts → Between → (same : List (List ℕ)) → (afters befores : List ℕ) → Look → List Stretch
left_of kind zone facts gap same afters befores look = flat_map (left_from kind zone facts gap same befores look) afters

-- between the names that stay, 0, the current line and the end
abbrev pub all_left : Bounds → Facts → Between → (same : List (List ℕ)) → (kept : List ℕ) → List Look → List Stretch
all_left zone facts gap same kept looks =
    (flat_map (left_of Staying zone facts gap same (name.zero ∷ kept) (end ∷ kept)) looks ++
    flat_map (left_of Before zone facts gap same (name.zero ∷ kept) (name.current_line ∷ [])) looks) ++
    flat_map (left_of After zone facts gap same (name.current_line ∷ []) (end ∷ kept)) looks

-- of the last line
abbrev pub last_left : Bounds → Facts → Between → List Look → List LineFact
last_left zone facts gap looks =
    if below zone gap.to (at name.last_line) then filter (λ f. list_any (nat_eq f.name) (name.last_line ∷ [])) facts.lines
    else if le zone (at name.last_line) gap.to (pos 0) then flat_map (λ look. told_fact name.last_line look.pattern look.tested.last) looks
    else []

-- all facts after an edit
abbrev pub edited_by : Bounds → Facts → Between → (same : List (List ℕ)) → (kept : List ℕ) → List Look → Facts
edited_by zone facts gap same kept looks = record {
  lines = (filter (λ f. list_any (nat_eq f.name) kept) facts.lines ++ last_left zone facts gap looks) ++
      flat_map (λ look. told_fact name.current_line look.pattern look.tested.last) looks;
  clear = all_left zone facts gap same kept looks;
}

-- WHAT IS LEFT WHERE LINES ARE CARRIED ELSEWHERE

-- of the last line, if it is after them, and after the place that they come to
abbrev pub last_aside : Bounds → Facts → List LineFact
last_aside zone facts =
    if below zone (at name.second_address) (at name.last_line) && below zone (at name.target_address) (at name.last_line)
    then filter (λ f. list_any (nat_eq f.name) (name.last_line ∷ [])) facts.lines
    else []

-- all facts
abbrev pub carried_by : Bounds → Facts → Between → (same : List (List ℕ)) → (kept : List ℕ) → List Look → Facts
carried_by zone facts gap same kept looks = record {
  lines = (filter (λ f. list_any (nat_eq f.name) kept) facts.lines ++ last_aside zone facts) ++
      flat_map (λ look. told_fact name.current_line look.pattern look.tested.last) looks;
  clear = flat_map (left_of Carried zone facts gap same (name.zero ∷ kept) (end ∷ kept)) looks;
}

-- WHAT IS LEFT WHERE LINES THAT MATCH ARE CHANGED

-- The facts of these names, if their lines surely stay. Here `same` are the patterns that may be looked for.
abbrev pub spared_by : Bounds → Facts → Between → (same : List (List ℕ)) → (kept : List ℕ) → List Look → Facts
spared_by zone facts gap same kept looks = record {
  lines = filter (λ f. (list_any (nat_eq f.name) kept || f.name == name.last_line) && is_spared zone facts same f.name) facts.lines;
  clear = flat_map (left_of Spared zone facts gap same (name.zero ∷ kept) (end ∷ kept)) looks;
}
