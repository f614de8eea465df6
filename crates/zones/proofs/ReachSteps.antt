-- Of names of which nothing is known nothing becomes known by a step on earlier ones, by a join or by a widening.
use Rattle.std.proofs.Common.{inl, inr, ◌<◌, ◌≤◌, ℕ, ℤ, Option, arith, ◌∙◌, ap, sym}
use Rattle.std.proofs.lemmas.Bool.Decides.{eqb_tells}
use Rattle.zones.specs.Bound.{tighten}
use Rattle.zones.specs.Zone.{Bounds, bound}
use Rattle.zones.specs.Limits.{IsZone}
use Rattle.zones.specs.Steps.{after_guard, guard_bound, after_set, set_bound, after_shift, shift_bound, after_forget, forget_bound, join_of, join_bound, widening_of, widening_bound, after_put, put_bound}
use Rattle.zones.specs.Reach.{AreUnknown}
use Rattle.zones.proofs.Kept.{IsKept-bound}
use Rattle.zones.proofs.Places.{bound-zone_by}
use Rattle.zones.proofs.ReachLemmas.{any_bound-beside, join-unknown, widening-unknown}
use Rattle.zones.proofs.Writes.{tighten-no_way_to, tighten-no_way}

pub unknown-after_guard : (zone : Bounds) (x y m : ℕ) (c : ℤ) → x < m → y < m → m ≤ 32 → IsZone zone → AreUnknown zone m → AreUnknown (after_guard zone x y c) m
unfolding after_guard guard_bound
unknown-after_guard zone x y m c hx hy hm kept unknown = record {
  row = λ p q high hp hq.
      bound-zone_by (guard_bound zone x y c) p q hp hq
      ∙ ap (λ to. tighten (bound zone p q) to c (bound zone y q)) (unknown.row p x high hp (omega arith) ∙ any_bound-beside p x (omega arith))
      ∙ tighten-no_way_to (bound zone p q) c (bound zone y q) (IsKept-bound zone p q kept) ∙ unknown.row p q high hp hq;
  column = λ p q high hp hq.
      bound-zone_by (guard_bound zone x y c) p q hp hq
      ∙ ap (tighten (bound zone p q) (bound zone p x) c) (unknown.column y q high (omega arith) hq ∙ any_bound-beside y q (omega arith))
      ∙ tighten-no_way (bound zone p q) (bound zone p x) c (IsKept-bound zone p q kept) ∙ unknown.column p q high hp hq;
}

pub unknown-after_set : (zone : Bounds) (x y m : ℕ) (c : ℤ) → x < m → y < m → m ≤ 32 → AreUnknown zone m → AreUnknown (after_set zone x y c) m
unfolding after_set set_bound
unknown-after_set zone x y m c hx hy hm unknown = record {
  row = λ p q high hp hq.
      bound-zone_by (set_bound zone x y c) p q hp hq
      ∙ elim (eqb_tells p x) [
        | inl t ↦ absurd (omega (arith, t.1))
        | inr t ↦ rw t.0 (elim (eqb_tells q x) [
          | inl u ↦ rw (u.0, unknown.row p y high hp (omega arith) ∙ any_bound-beside p y (omega arith)) (sym (any_bound-beside p q (omega (arith, u.1))))
          | inr u ↦ rw u.0 (unknown.row p q high hp hq)
        ])
      ];
  column = λ p q high hp hq.
      bound-zone_by (set_bound zone x y c) p q hp hq
      ∙ elim (eqb_tells q x) [
        | inl u ↦ absurd (omega (arith, u.1))
        | inr u ↦ elim (eqb_tells p x) [
          | inl t ↦ rw (t.0, u.0, unknown.column y q high (omega arith) hq ∙ any_bound-beside y q (omega arith)) (sym (any_bound-beside p q (omega (arith, t.1))))
          | inr t ↦ rw (t.0, u.0) (unknown.column p q high hp hq)
        ]
      ];
}

pub unknown-after_shift : (zone : Bounds) (x m : ℕ) (low high : Option ℤ) → x < m → m ≤ 32 → AreUnknown zone m → AreUnknown (after_shift zone x low high) m
unfolding after_shift shift_bound
unknown-after_shift zone x m low most hx hm unknown = record {
  row = λ p q high hp hq.
      bound-zone_by (shift_bound zone x low most) p q hp hq
      ∙ elim (eqb_tells p x) [
        | inl t ↦ absurd (omega (arith, t.1))
        | inr t ↦ rw t.0 (elim (eqb_tells q x) [
          | inl u ↦ rw (u.0, unknown.row p x high hp (omega arith) ∙ any_bound-beside p x (omega arith)) (sym (any_bound-beside p q (omega (arith, u.1))))
          | inr u ↦ rw u.0 (unknown.row p q high hp hq)
        ])
      ];
  column = λ p q high hp hq.
      bound-zone_by (shift_bound zone x low most) p q hp hq
      ∙ elim (eqb_tells q x) [
        | inl u ↦ absurd (omega (arith, u.1))
        | inr u ↦ elim (eqb_tells p x) [
          | inl t ↦ rw (t.0, u.0, unknown.column x q high (omega arith) hq ∙ any_bound-beside x q (omega arith)) (sym (any_bound-beside p q (omega (arith, t.1))))
          | inr t ↦ rw (t.0, u.0) (unknown.column p q high hp hq)
        ]
      ];
}

pub unknown-after_forget : (zone : Bounds) (x m : ℕ) → x < m → m ≤ 32 → AreUnknown zone m → AreUnknown (after_forget zone x) m
unfolding after_forget forget_bound
unknown-after_forget zone x m hx hm unknown = record {
  row = λ p q high hp hq.
      bound-zone_by (forget_bound zone x) p q hp hq
      ∙ elim (eqb_tells p x) [
        | inl t ↦ absurd (omega (arith, t.1))
        | inr t ↦ rw t.0 (elim (eqb_tells q x) [
          | inl u ↦ rw u.0 (sym (any_bound-beside p q (omega (arith, u.1))))
          | inr u ↦ rw u.0 (unknown.row p q high hp hq)
        ])
      ];
  column = λ p q high hp hq.
      bound-zone_by (forget_bound zone x) p q hp hq
      ∙ elim (eqb_tells q x) [
        | inl u ↦ absurd (omega (arith, u.1))
        | inr u ↦ elim (eqb_tells p x) [
          | inl t ↦ rw (t.0, u.0) (sym (any_bound-beside p q (omega (arith, t.1))))
          | inr t ↦ rw (t.0, u.0) (unknown.column p q high hp hq)
        ]
      ];
}

pub unknown-after_put : (zone : Bounds) (x y m : ℕ) (number : Option ℤ) → x < m → y < m → AreUnknown zone m → AreUnknown (after_put zone x y number) m
unfolding after_put put_bound
unknown-after_put zone x y m number hx hy unknown = record {
  row = λ p q high hp hq.
      bound-zone_by (put_bound zone x y number) p q hp hq
      ∙ elim (eqb_tells p x) [ inl t ↦ absurd (omega (arith, t.1)) | inr t ↦ rw t.0 (unknown.row p q high hp hq) ];
  column = λ p q high hp hq.
      bound-zone_by (put_bound zone x y number) p q hp hq
      ∙ elim (eqb_tells q y) [
        | inl u ↦ absurd (omega (arith, u.1))
        | inr u ↦ elim (eqb_tells p x) [ inl t ↦ rw (t.0, u.0) (unknown.column p q high hp hq) | inr t ↦ rw t.0 (unknown.column p q high hp hq) ]
      ];
}

pub unknown-join_of : (one other : Bounds) (m : ℕ) → AreUnknown one m → AreUnknown other m → AreUnknown (join_of one other) m
unfolding join_of
unknown-join_of one other m here there = record {
  row = λ p q high hp hq. bound-zone_by (join_bound one other) p q hp hq ∙ join-unknown one other p q (here.row p q high hp hq) (there.row p q high hp hq);
  column = λ p q high hp hq. bound-zone_by (join_bound one other) p q hp hq ∙ join-unknown one other p q (here.column p q high hp hq) (there.column p q high hp hq);
}

pub unknown-widening_of : (old new : Bounds) (m : ℕ) → AreUnknown old m → AreUnknown new m → AreUnknown (widening_of old new) m
unfolding widening_of
unknown-widening_of old new m here there = record {
  row = λ p q high hp hq. bound-zone_by (widening_bound old new) p q hp hq ∙ widening-unknown old new p q (here.row p q high hp hq) (there.row p q high hp hq);
  column = λ p q high hp hq. bound-zone_by (widening_bound old new) p q hp hq ∙ widening-unknown old new p q (here.column p q high hp hq) (there.column p q high hp hq);
}
