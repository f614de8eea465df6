-- Worked rows of what facts say.
use Rattle.std.specs.Prelude.{◌≡◌, refl, ℕ, pos, negsuc, true, false, List, [], ◌∷◌, Some, None, codes}
use Rattle.zones.specs.Zone.{Bounds, bound, zone_by}
use Rattle.zones.specs.Known.{known}
use Rattle.zones.specs.Steps.{any_zone, after_put, put_bound}
use Rattle.ed_rules.specs.facts.Facts.{Facts, at, point, end, le, is_clear, told}
use Rattle.ed_rules.specs.facts.FactOrder.{cover_facts}
use Rattle.ed_rules.proofs.Worked.{Row, row}

abbrev a : ℕ
a = 6

abbrev b : ℕ
b = 7

-- the line of `a` is before that of `b`, and nothing else is known
unfoldable apart : Bounds
apart = after_put any_zone a b (Some (negsuc 0))

-- no line before `a` matches x, `a` does, and no line after it but maybe those after `b`
abbrev x_at_a : Facts
x_at_a = record {
  lines = (record { name = a; pattern = codes "x"; matches = true }) ∷ [];
  clear = (record { after = 0; before = a; pattern = codes "x" }) ∷ (record { after = a; before = b; pattern = codes "x" }) ∷ [];
}

told_rows : List Row
unfolding apart known bound after_put zone_by put_bound any_zone
told_rows =
    row (told apart x_at_a a (codes "x") ≡ Some true) refl  -- matches at a
    ∷ row (told apart x_at_a a (codes "y") ≡ None) refl  -- other patterns are open
    ∷ row (told apart x_at_a b (codes "y*") ≡ None) refl  -- that a pattern matches each line is no fact
    ∷ row (told apart x_at_a b (codes "x") ≡ None) refl  -- b is open
    ∷ row (is_clear apart x_at_a (at 0) (at a) (codes "x") ≡ true) refl  -- clear before a
    ∷ row (is_clear apart x_at_a (at b) (point end) (codes "x") ≡ false) refl  -- open after b
    ∷ row (is_clear apart x_at_a (at 0) (at b) (codes "x") ≡ false) refl  -- two stretches aren't put together
    ∷ row (le apart (at a) (at b) (negsuc 0) ≡ true) refl  -- a is before b
    ∷ []

-- COVERING ISN'T AN ORDER. In this zone, which isn't closed, c is at most a, b at most d, and d at most one more than c.

unfoldable open_zone : Bounds
open_zone = after_put (after_put (after_put any_zone 8 6 (Some (pos 0))) 7 9 (Some (pos 0))) 9 8 (Some (pos 1))

abbrev between : (after before : ℕ) → Facts
between after before = record { lines = []; clear = (record { after = after; before = before; pattern = codes "x" }) ∷ [] }

covering_rows : List Row
unfolding open_zone known bound after_put zone_by put_bound any_zone
covering_rows =
    row (cover_facts (between 6 7) open_zone (between 8 9) ≡ true) refl  -- first is covered
    ∷ row (cover_facts (between 8 9) open_zone (record { lines = []; clear = [] }) ≡ true) refl  -- second is covered
    ∷ row (cover_facts (between 6 7) open_zone (record { lines = []; clear = [] }) ≡ false) refl  -- but not through
    ∷ []
