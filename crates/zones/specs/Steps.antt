-- The steps: the bound of each pair (p, q) after a step, as a formula over the zone before it.
use Rattle.std.specs.Prelude.{ℕ, ◌==◌, if◌then◌else◌, ℤ, pos, Option, None, Some}
use Rattle.zones.specs.Bound.{clip_bound, tighten, raise, lower, greater_of, widen_bound, widen_diagonal}
use Rattle.zones.specs.Zone.{Bounds, bound, zone_by}

-- nothing is known but that each number is itself
abbrev pub any_bound : ℕ → ℕ → Option ℤ
any_bound p q = if p == q then Some (pos 0) else None

unfoldable pub any_zone : Bounds
any_zone = zone_by any_bound

-- x - y is at most c: each bound is the lesser of itself and of the way from p by x and y to q
unfoldable pub guard_bound : Bounds → ℕ → ℕ → ℤ → ℕ → ℕ → Option ℤ
guard_bound zone x y c p q = tighten (bound zone p q) (bound zone p x) c (bound zone y q)

unfoldable pub after_guard : Bounds → ℕ → ℕ → ℤ → Bounds
after_guard zone x y c = zone_by (guard_bound zone x y c)

-- x becomes y + c: its row is that of y raised by c, its column that of y lowered by c
unfoldable pub set_bound : Bounds → ℕ → ℕ → ℤ → ℕ → ℕ → Option ℤ
set_bound zone x y c p q =
    if p == x then (if q == x then Some (pos 0) else raise (bound zone y q) (Some c))
    else if q == x then lower (bound zone p y) (Some c)
    else bound zone p q

unfoldable pub after_set : Bounds → ℕ → ℕ → ℤ → Bounds
after_set zone x y c = zone_by (set_bound zone x y c)

-- x grows by a number from `low` to `high`: its row is raised by `high`, its column lowered by `low`
unfoldable pub shift_bound : Bounds → ℕ → Option ℤ → Option ℤ → ℕ → ℕ → Option ℤ
shift_bound zone x low high p q =
    if p == x then (if q == x then bound zone x x else raise (bound zone x q) high)
    else if q == x then lower (bound zone p x) low
    else bound zone p q

unfoldable pub after_shift : Bounds → ℕ → Option ℤ → Option ℤ → Bounds
after_shift zone x low high = zone_by (shift_bound zone x low high)

-- x becomes any number: nothing is known of it but that it is itself
unfoldable pub forget_bound : Bounds → ℕ → ℕ → ℕ → Option ℤ
forget_bound zone x p q =
    if p == x then (if q == x then Some (pos 0) else None)
    else if q == x then None
    else bound zone p q

unfoldable pub after_forget : Bounds → ℕ → Bounds
after_forget zone x = zone_by (forget_bound zone x)

-- what two zones both say: the greater of each two bounds
unfoldable pub join_bound : Bounds → Bounds → ℕ → ℕ → Option ℤ
join_bound one other p q = greater_of (bound one p q) (bound other p q)

unfoldable pub join_of : Bounds → Bounds → Bounds
join_of one other = zone_by (join_bound one other)

-- what of an old zone did not rise in a new one
unfoldable pub widening_bound : Bounds → Bounds → ℕ → ℕ → Option ℤ
widening_bound old new p q =
    if p == q then widen_diagonal (bound old p q) (bound new p q) else widen_bound (bound old p q) (bound new p q)

unfoldable pub widening_of : Bounds → Bounds → Bounds
widening_of old new = zone_by (widening_bound old new)

-- One bound is replaced, as a zone keeps it. This builds a zone and isn't a step.
unfoldable pub put_bound : Bounds → ℕ → ℕ → Option ℤ → ℕ → ℕ → Option ℤ
put_bound zone x y replacement p q =
    if p == x then (if q == y then clip_bound replacement else bound zone p q) else bound zone p q

unfoldable pub after_put : Bounds → ℕ → ℕ → Option ℤ → Bounds
after_put zone x y replacement = zone_by (put_bound zone x y replacement)
