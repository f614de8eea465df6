-- What the calls that merge two tables leave. No public contract speaks of it.
use Rattle.std.specs.Prelude.{ℕ, ◌==◌, if◌then◌else◌, ℤ, Option}
use Rattle.zones.specs.declared.two_tables.Merge.{Merge}
use Rattle.zones.specs.declared.two_tables.Merge.TheVariants as merges
use Rattle.zones.specs.Bound.{greater_of, widen_bound, widen_diagonal}
use Rattle.zones.specs.Zone.{Bounds, bound}
use Rattle.zones.specs.Steps.{join_of, widening_of}

-- two bounds of the pair (p, q) as one
abbrev pub merge_bound : Merge → (p q : ℕ) → (one other : Option ℤ) → Option ℤ
merge_bound merges.Join p q one other = greater_of one other
merge_bound merges.Widen p q old new = if p == q then widen_diagonal old new else widen_bound old new

-- those of two tables
abbrev pub merge_at : Merge → (one other : Bounds) → (p q : ℕ) → Option ℤ
merge_at merge one other p q = merge_bound merge p q (bound one p q) (bound other p q)

-- two zones as one
abbrev pub merged : Merge → (one other : Bounds) → Bounds
merged merges.Join one other = join_of one other
merged merges.Widen old new = widening_of old new
