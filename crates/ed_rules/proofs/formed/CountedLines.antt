-- At the start and at each rule's end it is known that there are at least 0 lines.
use Rattle.std.proofs.Common.{◌≡◌, ◌<◌, ℕ, ℤ, pos, neg_ℤ, ◌≤ℤ◌, int_lt, Bool, true, false, cond, List, Option, None, Some, refl, arith}
use Rattle.std.proofs.lemmas.Int.{ints}
use Rattle.zones.specs.Bound.{clip_bound, lesser_of, sum_of}
use Rattle.zones.specs.Zone.{Bounds, bound}
use Rattle.zones.specs.Limits.{IsAtMostZero, HasLowDiagonal}
use Rattle.zones.specs.Steps.{any_zone, after_guard, guard_bound, after_set, set_bound, after_forget}
use Rattle.zones.proofs.Diagonal.{IsAtMostZero-clip, IsAtMostZero-lesser, HasLowDiagonal-any_zone, HasLowDiagonal-after_guard, HasLowDiagonal-after_forget}
use Rattle.zones.proofs.Formulas.{bound-after_guard, bound-after_set}
use Rattle.ed_rules.specs.Marks.{for_each_sure}
use Rattle.ed_rules.specs.States.{limited}
use Rattle.ed_rules.specs.Pieces.{mark_bounded, ended}
use Rattle.ed_rules.specs.Formed.{IsCounted}
use Rattle.ed_rules.proofs.sound.Finishing.{for_each_sure-by}
use Rattle.ed_rules.proofs.formed.Speaking.{at_most-zero}

-- BOUNDS

lesser-way : (direct way : Option ℤ) → IsAtMostZero way → IsAtMostZero (clip_bound (lesser_of direct way))
lesser-way direct None h = absurd h
lesser-way None (Some d) h = IsAtMostZero-clip d h
lesser-way (Some c) (Some d) h =
    elim (int_lt d c) as (λ r. int_lt d c ≡ r → IsAtMostZero (clip_bound (cond r (Some d) (Some c)))) [
      | true ↦ λ e. IsAtMostZero-clip d h
      | false ↦ λ e. IsAtMostZero-clip c (grind (arith, ints))
    ] refl

sum-low : (to from : Option ℤ) (c : ℤ) → IsAtMostZero to → c ≤ℤ pos 0 → IsAtMostZero from → IsAtMostZero (sum_of (sum_of to (Some c)) from)
sum-low None from c h l k = absurd h
sum-low (Some a) None c h l k = absurd k
sum-low (Some a) (Some b) c h l k = omega (arith, ints)

-- GUARDS

guarded-stays : (zone : Bounds) (x y : ℕ) (c : ℤ) (p q : ℕ) → p < 32 → q < 32 → IsAtMostZero (bound zone p q) →
    IsAtMostZero (bound (after_guard zone x y c) p q)
unfolding guard_bound
guarded-stays zone x y c p q hp hq h =
    rw (bound-after_guard zone x y c p q hp hq)
    (IsAtMostZero-lesser (bound zone p q) (sum_of (sum_of (bound zone p x) (Some c)) (bound zone y q)) h)

guarded-way : (zone : Bounds) (x y : ℕ) (c : ℤ) (p q : ℕ) → p < 32 → q < 32 → IsAtMostZero (bound zone p x) → c ≤ℤ pos 0 →
    IsAtMostZero (bound zone y q) → IsAtMostZero (bound (after_guard zone x y c) p q)
unfolding guard_bound
guarded-way zone x y c p q hp hq h l f =
    rw (bound-after_guard zone x y c p q hp hq)
    (lesser-way (bound zone p q) (sum_of (sum_of (bound zone p x) (Some c)) (bound zone y q))
    (sum-low (bound zone p x) (bound zone y q) c h l f))

-- THE END OF A RULE

marks-stay : (marks : List Bool) (zone : Bounds) → IsCounted zone → IsCounted (for_each_sure mark_bounded marks 26 zone)
unfolding mark_bounded
marks-stay marks zone h =
    for_each_sure-by (λ k z. IsCounted z) mark_bounded marks zone h
    (λ k z l e q. guarded-stays _ _ _ _ 0 2 (omega arith) (omega arith) (guarded-stays z _ _ _ 0 2 (omega arith) (omega arith) q))
    (λ k z l e q. q) 26 (omega arith)

pub ended-counted : (marks : List Bool) (zone : Bounds) → HasLowDiagonal zone → IsCounted (ended marks zone)
unfolding ended
ended-counted marks zone h =
    let forgot : Bounds = after_forget (after_forget (after_forget zone 3) 4) 5 in
    let low : HasLowDiagonal forgot =
    HasLowDiagonal-after_forget _ 5 (HasLowDiagonal-after_forget _ 4 (HasLowDiagonal-after_forget zone 3 h)) in
    let once : Bounds = after_guard forgot 0 1 (pos 0) in
    let first : IsAtMostZero (bound once 0 1) =
    guarded-way forgot 0 1 (pos 0) 0 1 (omega arith) (omega arith) (at_most-zero forgot 0 (omega arith) low) (omega (arith, ints))
    (at_most-zero forgot 1 (omega arith) low) in
    let then_low : HasLowDiagonal once = HasLowDiagonal-after_guard forgot 0 1 (pos 0) low in
    marks-stay marks (after_guard once 1 2 (pos 0))
    (guarded-way once 1 2 (pos 0) 0 2 (omega arith) (omega arith) first (omega (arith, ints)) (at_most-zero once 2 (omega arith) then_low))

-- THE START

limited-counted : (max : Option ℕ) (zone : Bounds) → IsCounted zone → IsCounted (limited max zone)
limited-counted None zone h = h
limited-counted (Some max) zone h = guarded-stays zone _ _ _ 0 2 (omega arith) (omega arith) h

set-counted : (zone : Bounds) → IsCounted zone → IsCounted (after_set zone 1 2 (pos 0))
unfolding set_bound
set-counted zone h = rw (bound-after_set zone 1 2 (pos 0) 0 2 (omega arith) (omega arith)) h

pub start-counted : (min : ℕ) (max : Option ℕ) →
    IsCounted (after_set (limited max (after_guard any_zone 0 2 (neg_ℤ (pos min)))) 1 2 (pos 0))
start-counted min max =
    let low : HasLowDiagonal any_zone = HasLowDiagonal-any_zone in
    set-counted _ (limited-counted max _
    (guarded-way any_zone 0 2 (neg_ℤ (pos min)) 0 2 (omega arith) (omega arith) (at_most-zero any_zone 0 (omega arith) low)
    (omega (arith, ints)) (at_most-zero any_zone 2 (omega arith) low)))
