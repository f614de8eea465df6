-- Zones that are made by formulas.
use Rattle.std.proofs.Common.{◌≡◌, ◌≢◌, ◌<◌, ℕ, ℤ, pos, Option, Some, refl, ◌∙◌, inl, inr}
use Rattle.std.proofs.lemmas.Bool.Decides.{eqb_tells}
use Rattle.zones.specs.Bound.{raise, lower, widen_diagonal}
use Rattle.zones.specs.Zone.{Bounds, bound, zone_by}
use Rattle.zones.specs.Steps.{any_zone, any_bound, after_guard, guard_bound, after_set, set_bound, after_shift, shift_bound, after_forget, forget_bound, join_of, join_bound, widening_of, widening_bound, after_put, put_bound}
use Rattle.zones.proofs.Places.{bound-zone_by, length-zone_by, zone_by-each}

-- two formulas that agree on the names make one zone
pub zone_by-same : (f g : ℕ → ℕ → Option ℤ) → ((p q : ℕ) → p < 32 → q < 32 → f p q ≡ g p q) → zone_by f ≡ zone_by g
zone_by-same f g h = zone_by-each g (zone_by f) (length-zone_by f) (λ p q hp hq. bound-zone_by f p q hp hq ∙ h p q hp hq)

pub bound-any_zone : (p q : ℕ) → p < 32 → q < 32 → bound any_zone p q ≡ any_bound p q
unfolding any_zone
bound-any_zone p q hp hq = bound-zone_by any_bound p q hp hq

pub bound-after_guard : (zone : Bounds) (x y : ℕ) (c : ℤ) (p q : ℕ) → p < 32 → q < 32 → bound (after_guard zone x y c) p q ≡ guard_bound zone x y c p q
unfolding after_guard
bound-after_guard zone x y c p q hp hq = bound-zone_by (guard_bound zone x y c) p q hp hq

pub bound-after_set : (zone : Bounds) (x y : ℕ) (c : ℤ) (p q : ℕ) → p < 32 → q < 32 → bound (after_set zone x y c) p q ≡ set_bound zone x y c p q
unfolding after_set
bound-after_set zone x y c p q hp hq = bound-zone_by (set_bound zone x y c) p q hp hq

pub bound-after_shift : (zone : Bounds) (x : ℕ) (low high : Option ℤ) (p q : ℕ) → p < 32 → q < 32 → bound (after_shift zone x low high) p q ≡ shift_bound zone x low high p q
unfolding after_shift
bound-after_shift zone x low high p q hp hq = bound-zone_by (shift_bound zone x low high) p q hp hq

pub bound-after_forget : (zone : Bounds) (x p q : ℕ) → p < 32 → q < 32 → bound (after_forget zone x) p q ≡ forget_bound zone x p q
unfolding after_forget
bound-after_forget zone x p q hp hq = bound-zone_by (forget_bound zone x) p q hp hq

pub bound-join_of : (one other : Bounds) (p q : ℕ) → p < 32 → q < 32 → bound (join_of one other) p q ≡ join_bound one other p q
unfolding join_of
bound-join_of one other p q hp hq = bound-zone_by (join_bound one other) p q hp hq

pub bound-widening_of : (old new : Bounds) (p q : ℕ) → p < 32 → q < 32 → bound (widening_of old new) p q ≡ widening_bound old new p q
unfolding widening_of
bound-widening_of old new p q hp hq = bound-zone_by (widening_bound old new) p q hp hq

pub bound-after_put : (zone : Bounds) (x y : ℕ) (replacement : Option ℤ) (p q : ℕ) → p < 32 → q < 32 → bound (after_put zone x y replacement) p q ≡ put_bound zone x y replacement p q
unfolding after_put
bound-after_put zone x y replacement p q hp hq = bound-zone_by (put_bound zone x y replacement) p q hp hq

-- the formulas' cases, for names that are told apart

pub set_bound-row : (zone : Bounds) (x y : ℕ) (c : ℤ) (q : ℕ) → q ≢ x → set_bound zone x y c x q ≡ raise (bound zone y q) (Some c)
unfolding set_bound
set_bound-row zone x y c q n =
    elim (eqb_tells x x) [
      | inl e ↦ rw e.0 (elim (eqb_tells q x) [ inl g ↦ absurd (n g.1) | inr g ↦ rw g.0 refl ])
      | inr e ↦ absurd (e.1 refl)
    ]

pub set_bound-column : (zone : Bounds) (x y : ℕ) (c : ℤ) (p : ℕ) → p ≢ x → set_bound zone x y c p x ≡ lower (bound zone p y) (Some c)
unfolding set_bound
set_bound-column zone x y c p n =
    elim (eqb_tells p x) [
      | inl e ↦ absurd (n e.1)
      | inr e ↦ rw e.0 (elim (eqb_tells x x) [ inl g ↦ rw g.0 refl | inr g ↦ absurd (g.1 refl) ])
    ]

pub set_bound-corner : (zone : Bounds) (x y : ℕ) (c : ℤ) → set_bound zone x y c x x ≡ Some (pos 0)
unfolding set_bound
set_bound-corner zone x y c = elim (eqb_tells x x) [ inl e ↦ rw e.0 refl | inr e ↦ absurd (e.1 refl) ]

pub set_bound-other : (zone : Bounds) (x y : ℕ) (c : ℤ) (p q : ℕ) → p ≢ x → q ≢ x → set_bound zone x y c p q ≡ bound zone p q
unfolding set_bound
set_bound-other zone x y c p q n m =
    elim (eqb_tells p x) [
      | inl e ↦ absurd (n e.1)
      | inr e ↦ rw e.0 (elim (eqb_tells q x) [ inl g ↦ absurd (m g.1) | inr g ↦ rw g.0 refl ])
    ]

pub shift_bound-row : (zone : Bounds) (x : ℕ) (low high : Option ℤ) (q : ℕ) → q ≢ x → shift_bound zone x low high x q ≡ raise (bound zone x q) high
unfolding shift_bound
shift_bound-row zone x low high q n =
    elim (eqb_tells x x) [
      | inl e ↦ rw e.0 (elim (eqb_tells q x) [ inl g ↦ absurd (n g.1) | inr g ↦ rw g.0 refl ])
      | inr e ↦ absurd (e.1 refl)
    ]

pub shift_bound-column : (zone : Bounds) (x : ℕ) (low high : Option ℤ) (p : ℕ) → p ≢ x → shift_bound zone x low high p x ≡ lower (bound zone p x) low
unfolding shift_bound
shift_bound-column zone x low high p n =
    elim (eqb_tells p x) [
      | inl e ↦ absurd (n e.1)
      | inr e ↦ rw e.0 (elim (eqb_tells x x) [ inl g ↦ rw g.0 refl | inr g ↦ absurd (g.1 refl) ])
    ]

pub shift_bound-corner : (zone : Bounds) (x : ℕ) (low high : Option ℤ) → shift_bound zone x low high x x ≡ bound zone x x
unfolding shift_bound
shift_bound-corner zone x low high = elim (eqb_tells x x) [ inl e ↦ rw e.0 refl | inr e ↦ absurd (e.1 refl) ]

pub shift_bound-other : (zone : Bounds) (x : ℕ) (low high : Option ℤ) (p q : ℕ) → p ≢ x → q ≢ x → shift_bound zone x low high p q ≡ bound zone p q
unfolding shift_bound
shift_bound-other zone x low high p q n m =
    elim (eqb_tells p x) [
      | inl e ↦ absurd (n e.1)
      | inr e ↦ rw e.0 (elim (eqb_tells q x) [ inl g ↦ absurd (m g.1) | inr g ↦ rw g.0 refl ])
    ]

pub forget_bound-corner : (zone : Bounds) (x : ℕ) → forget_bound zone x x x ≡ Some (pos 0)
unfolding forget_bound
forget_bound-corner zone x = elim (eqb_tells x x) [ inl e ↦ rw e.0 refl | inr e ↦ absurd (e.1 refl) ]

pub forget_bound-other : (zone : Bounds) (x p q : ℕ) → p ≢ x → q ≢ x → forget_bound zone x p q ≡ bound zone p q
unfolding forget_bound
forget_bound-other zone x p q n m =
    elim (eqb_tells p x) [
      | inl e ↦ absurd (n e.1)
      | inr e ↦ rw e.0 (elim (eqb_tells q x) [ inl g ↦ absurd (m g.1) | inr g ↦ rw g.0 refl ])
    ]

pub widening_bound-diagonal : (old new : Bounds) (x : ℕ) → widening_bound old new x x ≡ widen_diagonal (bound old x x) (bound new x x)
unfolding widening_bound
widening_bound-diagonal old new x = elim (eqb_tells x x) [ inl e ↦ rw e.0 refl | inr e ↦ absurd (e.1 refl) ]
