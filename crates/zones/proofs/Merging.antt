-- Two tables that are merged.
use Rattle.std.proofs.Common.{◌≡◌, ℕ, refl}
use Rattle.zones.specs.declared.two_tables.Merge.{Merge}
use Rattle.zones.specs.declared.two_tables.Merge.TheVariants as merges
use Rattle.zones.specs.Zone.{Bounds, bound, zone_by}
use Rattle.zones.specs.Steps.{any_bound, join_of, join_bound, widening_of, widening_bound}
use Rattle.zones.specs.Limits.{IsZone}
use Rattle.zones.specs.Reach.{AreUnknown}
use Rattle.zones.specs.Merging.{merge_at, merged}
use Rattle.zones.proofs.Kept.{IsZone-join_of, IsZone-widening_of}
use Rattle.zones.proofs.ReachLemmas.{join-unknown, widening-unknown}
use Rattle.zones.proofs.ReachSteps.{unknown-join_of, unknown-widening_of}

-- of what is known of neither table nothing becomes known
pub merge-unknown : (merge : Merge) (one other : Bounds) (p q : ℕ) → bound one p q ≡ any_bound p q → bound other p q ≡ any_bound p q → merge_at merge one other p q ≡ any_bound p q
unfolding join_bound widening_bound
merge-unknown merges.Join one other p q e f = join-unknown one other p q e f
merge-unknown merges.Widen old new p q e f = widening-unknown old new p q e f

pub unknown-merged : (merge : Merge) (one other : Bounds) (most : ℕ) → AreUnknown one most → AreUnknown other most → AreUnknown (merged merge one other) most
unknown-merged merges.Join one other most here there = unknown-join_of one other most here there
unknown-merged merges.Widen old new most here there = unknown-widening_of old new most here there

pub merged-by : (merge : Merge) (one other : Bounds) → zone_by (merge_at merge one other) ≡ merged merge one other
unfolding join_of join_bound widening_of widening_bound
merged-by merges.Join one other = refl
merged-by merges.Widen old new = refl

pub IsZone-merged : (merge : Merge) (one other : Bounds) → IsZone one → IsZone other → IsZone (merged merge one other)
IsZone-merged merges.Join one other h k = IsZone-join_of one other h k
IsZone-merged merges.Widen old new h k = IsZone-widening_of old new h k
