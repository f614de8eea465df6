-- Worked rows of what searches and edits make of facts.
use Rattle.std.specs.Prelude.{◌≡◌, refl, ℕ, pos, negsuc, true, List, [], ◌∷◌, Some, codes}
use Rattle.zones.specs.Zone.{Bounds, bound, zone_by}
use Rattle.zones.specs.Known.{known}
use Rattle.zones.specs.Steps.{any_zone, after_put, put_bound, after_guard, guard_bound, after_set, set_bound, after_forget, forget_bound}
use Rattle.ed_rules.specs.facts.Facts.{LineFact, Stretch, Facts, end}
use Rattle.ed_rules.specs.facts.FoundLines.{searched_forward, searched_backward}
use Rattle.ed_rules.specs.facts.EditedFacts.{edited, deletion, appending, stays}
use Rattle.ed_rules.proofs.Worked.{Row, row}

abbrev matching : ℕ → LineFact
matching x = record { name = x; pattern = codes "x"; matches = true }

abbrev between : ℕ → ℕ → Stretch
between x y = record { after = x; before = y; pattern = codes "x" }

-- `.` is before the line of `a`, which matches x; no line before it does
unfoldable before_a : Bounds
before_a = after_put any_zone 1 6 (Some (negsuc 0))

abbrev x_at_a : Facts
x_at_a = record { lines = matching 6 ∷ []; clear = between 0 6 ∷ [] }

search_rows : List Row
unfolding before_a known bound after_put zone_by put_bound any_zone after_guard guard_bound after_forget forget_bound after_set set_bound
search_rows =
    -- ahead, the first address isn't after `a`, and no line from `.` to it matches
    row ((searched_forward 3 (codes "x") before_a x_at_a).facts ≡
    record { lines = matching 3 ∷ matching 6 ∷ []; clear = between 1 3 ∷ between 0 6 ∷ [] }) refl
    ∷ row (known (searched_forward 3 (codes "x") before_a x_at_a).zone 3 6 (pos 0) ≡ true) refl  -- no later than a
    -- backward the search goes round, as no line from the first to `.` matches: what is found is the last line that does
    ∷ row ((searched_backward 3 (codes "x") before_a x_at_a).facts ≡
    record { lines = matching 3 ∷ matching 6 ∷ []; clear = between 3 end ∷ between 0 6 ∷ [] }) refl
    -- the only line that matches is found from wherever
    ∷ row (known (searched_backward 3 (codes "x") any_zone (record { lines = matching 6 ∷ []; clear = between 0 6 ∷ between 6 end ∷ [] })).zone 6 3 (pos 0) ≡
    true) refl
    ∷ []

-- `d` of one line after `a`: what is known of `a`, and of the lines before it, stays
unfoldable after_a : Bounds
after_a = after_put (after_put (after_put any_zone 6 3 (Some (negsuc 0))) 3 4 (Some (pos 0))) 4 3 (Some (pos 0))

edit_rows : List Row
unfolding after_a known bound after_put zone_by put_bound any_zone
edit_rows =
    -- one line gone
    row (edited after_a x_at_a deletion (6 ∷ []) (codes "x" ∷ []) ≡
    record { lines = matching 6 ∷ []; clear = between 0 6 ∷ [] }) refl
    ∷ row (stays after_a x_at_a deletion 6 ≡ true) refl  -- a stays
    -- `a` of a line that matches, after `a`: the stretch before `a` stays, and the new line is known to match
    ∷ row (edited after_a x_at_a (appending (codes "xy" ∷ [])) (6 ∷ []) (codes "x" ∷ []) ≡
    record { lines = matching 6 ∷ matching 1 ∷ []; clear = between 0 6 ∷ [] }) refl
    ∷ []
