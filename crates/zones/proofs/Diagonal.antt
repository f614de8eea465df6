-- Steps keep the diagonal at most 0.
use Rattle.std.proofs.Common.{◌≡◌, ◌<◌, ℕ, ℤ, pos, ◌≤ℤ◌, int_lt, Option, None, Some, true, false, cond, refl, inl, inr, arith}
use Rattle.std.proofs.lemmas.Int.{ints}
use Rattle.std.proofs.lemmas.Bool.Decides.{eqb_tells}
use Rattle.zones.specs.Bound.{clip, clip_bound, lesser_of, sum_of, greater_of, widen_diagonal}
use Rattle.zones.specs.Zone.{Bounds, bound}
use Rattle.zones.specs.Steps.{any_zone, after_guard, guard_bound, after_set, after_shift, after_forget, join_of, join_bound, widening_of}
use Rattle.zones.specs.Limits.{IsAtMostZero, HasLowDiagonal}
use Rattle.zones.proofs.Formulas.{bound-any_zone, bound-after_guard, bound-after_set, bound-after_shift, bound-after_forget, bound-join_of, bound-widening_of, set_bound-corner, set_bound-other, shift_bound-corner, shift_bound-other, forget_bound-corner, forget_bound-other, widening_bound-diagonal}

pub IsAtMostZero-clip : (c : ℤ) → c ≤ℤ pos 0 → IsAtMostZero (clip c)
IsAtMostZero-clip c h = grind (arith, ints)

pub IsAtMostZero-lesser : (direct way : Option ℤ) → IsAtMostZero direct → IsAtMostZero (clip_bound (lesser_of direct way))
IsAtMostZero-lesser None way h = absurd h
IsAtMostZero-lesser (Some c) None h = IsAtMostZero-clip c h
IsAtMostZero-lesser (Some c) (Some d) h =
    elim (int_lt d c) as (λ r. int_lt d c ≡ r → IsAtMostZero (clip_bound (cond r (Some d) (Some c)))) [
      | true ↦ λ e. IsAtMostZero-clip d (grind (arith, ints))
      | false ↦ λ e. IsAtMostZero-clip c h
    ] refl

IsAtMostZero-greater_of : (a b : Option ℤ) → IsAtMostZero a → IsAtMostZero b → IsAtMostZero (greater_of a b)
IsAtMostZero-greater_of None b h k = absurd h
IsAtMostZero-greater_of (Some a) None h k = absurd k
IsAtMostZero-greater_of (Some a) (Some b) h k = elim (int_lt a b) as (λ r. IsAtMostZero (cond r (Some b) (Some a))) [ true ↦ k | false ↦ h ]

IsAtMostZero-zero : IsAtMostZero (Some (pos 0))
IsAtMostZero-zero = omega (arith, ints)

IsAtMostZero-widen_diagonal : (a b : Option ℤ) → IsAtMostZero a → IsAtMostZero b → IsAtMostZero (widen_diagonal a b)
IsAtMostZero-widen_diagonal None b h k = absurd h
IsAtMostZero-widen_diagonal (Some a) None h k = absurd k
IsAtMostZero-widen_diagonal (Some a) (Some b) h k =
    elim (int_lt a b) as (λ r. IsAtMostZero (cond r (greater_of (Some (pos 0)) (Some b)) (Some a))) [
      | true ↦ IsAtMostZero-greater_of (Some (pos 0)) (Some b) IsAtMostZero-zero k
      | false ↦ h
    ]

pub HasLowDiagonal-any_zone : HasLowDiagonal any_zone
unfolding HasLowDiagonal
HasLowDiagonal-any_zone p h =
    rw (bound-any_zone p p h h) (elim (eqb_tells p p) [ inl e ↦ rw e.0 IsAtMostZero-zero | inr e ↦ absurd (e.1 refl) ])

pub HasLowDiagonal-after_guard : (zone : Bounds) (x y : ℕ) (c : ℤ) → HasLowDiagonal zone → HasLowDiagonal (after_guard zone x y c)
unfolding HasLowDiagonal guard_bound
HasLowDiagonal-after_guard zone x y c low p h =
    rw (bound-after_guard zone x y c p p h h)
    (IsAtMostZero-lesser (bound zone p p) (sum_of (sum_of (bound zone p x) (Some c)) (bound zone y p)) (low p h))

pub HasLowDiagonal-after_set : (zone : Bounds) (x y : ℕ) (c : ℤ) → HasLowDiagonal zone → HasLowDiagonal (after_set zone x y c)
unfolding HasLowDiagonal
HasLowDiagonal-after_set zone x y c low p h =
    rw (bound-after_set zone x y c p p h h)
    (elim (eqb_tells p x) [
      | inl e ↦ rw (e.1, set_bound-corner zone x y c) IsAtMostZero-zero
      | inr e ↦ rw (set_bound-other zone x y c p p e.1 e.1) (low p h)
    ])

pub HasLowDiagonal-after_shift : (zone : Bounds) (x : ℕ) (low high : Option ℤ) → x < 32 → HasLowDiagonal zone → HasLowDiagonal (after_shift zone x low high)
unfolding HasLowDiagonal
HasLowDiagonal-after_shift zone x low high hx diagonal p h =
    rw (bound-after_shift zone x low high p p h h)
    (elim (eqb_tells p x) [
      | inl e ↦ rw (e.1, shift_bound-corner zone x low high) (diagonal x hx)
      | inr e ↦ rw (shift_bound-other zone x low high p p e.1 e.1) (diagonal p h)
    ])

pub HasLowDiagonal-after_forget : (zone : Bounds) (x : ℕ) → HasLowDiagonal zone → HasLowDiagonal (after_forget zone x)
unfolding HasLowDiagonal
HasLowDiagonal-after_forget zone x low p h =
    rw (bound-after_forget zone x p p h h)
    (elim (eqb_tells p x) [
      | inl e ↦ rw (e.1, forget_bound-corner zone x) IsAtMostZero-zero
      | inr e ↦ rw (forget_bound-other zone x p p e.1 e.1) (low p h)
    ])

pub HasLowDiagonal-join_of : (one other : Bounds) → HasLowDiagonal one → HasLowDiagonal other → HasLowDiagonal (join_of one other)
unfolding HasLowDiagonal join_bound
HasLowDiagonal-join_of one other h k p hp =
    rw (bound-join_of one other p p hp hp) (IsAtMostZero-greater_of (bound one p p) (bound other p p) (h p hp) (k p hp))

pub HasLowDiagonal-widening_of : (old new : Bounds) → HasLowDiagonal old → HasLowDiagonal new → HasLowDiagonal (widening_of old new)
unfolding HasLowDiagonal
HasLowDiagonal-widening_of old new h k p hp =
    rw (bound-widening_of old new p p hp hp, widening_bound-diagonal old new p)
    (IsAtMostZero-widen_diagonal (bound old p p) (bound new p p) (h p hp) (k p hp))
