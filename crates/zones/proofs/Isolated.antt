-- Isolated names stay isolated.
use Rattle.std.proofs.Common.{◌≡◌, ◌≢◌, ◌<◌, inl, inr, ℕ, ℤ, Option, None, Some, refl, ◌∙◌, sym}
use Rattle.std.proofs.lemmas.Bool.Decides.{eqb_tells}
use Rattle.zones.specs.Bound.{sum_of, tighten, widen_bound}
use Rattle.zones.specs.Zone.{Bounds, bound}
use Rattle.zones.specs.Steps.{any_zone, after_guard, guard_bound, after_set, after_shift, after_forget, forget_bound, join_of, join_bound, widening_of, widening_bound}
use Rattle.zones.specs.Isolated.{IsIsolated}
use Rattle.zones.proofs.Formulas.{bound-any_zone, bound-after_guard, bound-after_set, bound-after_shift, bound-after_forget, bound-join_of, bound-widening_of, set_bound-row, set_bound-column, set_bound-other, shift_bound-row, shift_bound-column, shift_bound-other, forget_bound-corner, forget_bound-other, widening_bound-diagonal}
use Rattle.zones.proofs.ReachLemmas.{any_bound-beside, any_bound-itself}

forget_bound-row : (zone : Bounds) (x q : ℕ) → q ≢ x → forget_bound zone x x q ≡ None
unfolding forget_bound
forget_bound-row zone x q n =
    elim (eqb_tells x x) [
      | inl e ↦ rw e.0 (elim (eqb_tells q x) [ inl g ↦ absurd (n g.1) | inr g ↦ rw g.0 refl ])
      | inr e ↦ absurd (e.1 refl)
    ]

forget_bound-column : (zone : Bounds) (x p : ℕ) → p ≢ x → forget_bound zone x p x ≡ None
unfolding forget_bound
forget_bound-column zone x p n =
    elim (eqb_tells p x) [
      | inl e ↦ absurd (n e.1)
      | inr e ↦ rw e.0 (elim (eqb_tells x x) [ inl g ↦ rw g.0 refl | inr g ↦ absurd (g.1 refl) ])
    ]

pub widening_bound-other : (old new : Bounds) (p q : ℕ) → p ≢ q →
    widening_bound old new p q ≡ widen_bound (bound old p q) (bound new p q)
unfolding widening_bound
widening_bound-other old new p q n = elim (eqb_tells p q) [ inl e ↦ absurd (n e.1) | inr e ↦ rw e.0 refl ]

swapped : (p q : ℕ) → p ≢ q → q ≢ p
swapped p q n e = n (sym e)

-- a way through any is any
way-from : (to : Option ℤ) (c : ℤ) → sum_of (sum_of to (Some c)) None ≡ None
way-from None c = refl
way-from (Some a) c = refl

tighten-column : (to : Option ℤ) (c : ℤ) → tighten None to c None ≡ None
tighten-column to c = rw (way-from to c) refl

pub IsIsolated-any_zone : (x : ℕ) → x < 32 → IsIsolated any_zone x
IsIsolated-any_zone x hx = record {
  itself = bound-any_zone x x hx hx ∙ any_bound-itself x;
  row = λ q hq n. bound-any_zone x q hx hq ∙ any_bound-beside x q (swapped q x n);
  column = λ p hp n. bound-any_zone p x hp hx ∙ any_bound-beside p x n;
}

pub IsIsolated-after_guard : (zone : Bounds) (x y z : ℕ) (c : ℤ) → x < 32 → y < 32 → z < 32 → y ≢ x → z ≢ x →
    IsIsolated zone x → IsIsolated (after_guard zone y z c) x
unfolding guard_bound
IsIsolated-after_guard zone x y z c hx hy hz ny nz h = record {
  itself = bound-after_guard zone y z c x x hx hx ∙ (rw (h.itself, h.row y hy ny) refl);
  row = λ q hq n. bound-after_guard zone y z c x q hx hq ∙ (rw (h.row q hq n, h.row y hy ny) refl);
  column = λ p hp n. bound-after_guard zone y z c p x hp hx
      ∙ (rw (h.column p hp n, h.column z hz nz) (tighten-column (bound zone p y) c));
}

pub IsIsolated-after_set : (zone : Bounds) (x y z : ℕ) (c : ℤ) → x < 32 → y < 32 → z < 32 → y ≢ x → z ≢ x →
    IsIsolated zone x → IsIsolated (after_set zone y z c) x
IsIsolated-after_set zone x y z c hx hy hz ny nz h = record {
  itself = bound-after_set zone y z c x x hx hx ∙ set_bound-other zone y z c x x (swapped y x ny) (swapped y x ny) ∙ h.itself;
  row = λ q hq n. bound-after_set zone y z c x q hx hq ∙ (elim (eqb_tells q y) [
    | inl e ↦ rw e.1 (set_bound-column zone y z c x (swapped y x ny) ∙ (rw (h.row z hz nz) refl))
    | inr e ↦ set_bound-other zone y z c x q (swapped y x ny) e.1 ∙ h.row q hq n
  ]);
  column = λ p hp n. bound-after_set zone y z c p x hp hx ∙ (elim (eqb_tells p y) [
    | inl e ↦ rw e.1 (set_bound-row zone y z c x (swapped y x ny) ∙ (rw (h.column z hz nz) refl))
    | inr e ↦ set_bound-other zone y z c p x e.1 (swapped y x ny) ∙ h.column p hp n
  ]);
}

pub IsIsolated-after_shift : (zone : Bounds) (x y : ℕ) (low high : Option ℤ) → x < 32 → y < 32 → y ≢ x → IsIsolated zone x →
    IsIsolated (after_shift zone y low high) x
IsIsolated-after_shift zone x y low high hx hy ny h = record {
  itself = bound-after_shift zone y low high x x hx hx ∙ shift_bound-other zone y low high x x (swapped y x ny) (swapped y x ny)
      ∙ h.itself;
  row = λ q hq n. bound-after_shift zone y low high x q hx hq ∙ (elim (eqb_tells q y) [
    | inl e ↦ rw e.1 (shift_bound-column zone y low high x (swapped y x ny) ∙ (rw (h.row y hy ny) refl))
    | inr e ↦ shift_bound-other zone y low high x q (swapped y x ny) e.1 ∙ h.row q hq n
  ]);
  column = λ p hp n. bound-after_shift zone y low high p x hp hx ∙ (elim (eqb_tells p y) [
    | inl e ↦ rw e.1 (shift_bound-row zone y low high x (swapped y x ny) ∙ (rw (h.column y hy ny) refl))
    | inr e ↦ shift_bound-other zone y low high p x e.1 (swapped y x ny) ∙ h.column p hp n
  ]);
}

pub IsIsolated-after_forget : (zone : Bounds) (x y : ℕ) → x < 32 → y ≢ x → IsIsolated zone x →
    IsIsolated (after_forget zone y) x
IsIsolated-after_forget zone x y hx ny h = record {
  itself = bound-after_forget zone y x x hx hx ∙ forget_bound-other zone y x x (swapped y x ny) (swapped y x ny) ∙ h.itself;
  row = λ q hq n. bound-after_forget zone y x q hx hq ∙ (elim (eqb_tells q y) [
    | inl e ↦ rw e.1 (forget_bound-column zone y x (swapped y x ny))
    | inr e ↦ forget_bound-other zone y x q (swapped y x ny) e.1 ∙ h.row q hq n
  ]);
  column = λ p hp n. bound-after_forget zone y p x hp hx ∙ (elim (eqb_tells p y) [
    | inl e ↦ rw e.1 (forget_bound-row zone y x (swapped y x ny))
    | inr e ↦ forget_bound-other zone y p x e.1 (swapped y x ny) ∙ h.column p hp n
  ]);
}

pub IsIsolated-forgotten : (zone : Bounds) (x : ℕ) → x < 32 → IsIsolated (after_forget zone x) x
IsIsolated-forgotten zone x hx = record {
  itself = bound-after_forget zone x x x hx hx ∙ forget_bound-corner zone x;
  row = λ q hq n. bound-after_forget zone x x q hx hq ∙ forget_bound-row zone x q n;
  column = λ p hp n. bound-after_forget zone x p x hp hx ∙ forget_bound-column zone x p n;
}

pub IsIsolated-join_of : (one other : Bounds) (x : ℕ) → x < 32 → IsIsolated one x → IsIsolated other x →
    IsIsolated (join_of one other) x
unfolding join_bound
IsIsolated-join_of one other x hx h k = record {
  itself = bound-join_of one other x x hx hx ∙ (rw (h.itself, k.itself) refl);
  row = λ q hq n. bound-join_of one other x q hx hq ∙ (rw (h.row q hq n) refl);
  column = λ p hp n. bound-join_of one other p x hp hx ∙ (rw (h.column p hp n) refl);
}

pub IsIsolated-widening_of : (old new : Bounds) (x : ℕ) → x < 32 → IsIsolated old x → IsIsolated new x →
    IsIsolated (widening_of old new) x
IsIsolated-widening_of old new x hx h k = record {
  itself = bound-widening_of old new x x hx hx ∙ widening_bound-diagonal old new x ∙ (rw (h.itself, k.itself) refl);
  row = λ q hq n. bound-widening_of old new x q hx hq ∙ widening_bound-other old new x q (swapped q x n) ∙ (rw (h.row q hq n) refl);
  column = λ p hp n. bound-widening_of old new p x hp hx ∙ widening_bound-other old new p x n ∙ (rw (h.column p hp n) refl);
}
