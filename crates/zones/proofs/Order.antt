-- The order of zones: which of two is the weaker.
use Rattle.std.proofs.Common.{◌≡◌, ◌<◌, ◌/◌, ◌%◌, ◌+◌, ◌*◌, ℕ, ℤ, get_or, Option, None, Some, true, false, cond, eqb, int_lt, refl, arith, sym, ◌∙◌}
use Rattle.std.proofs.lemmas.Int.{ints}
use Rattle.zones.specs.Bound.{covers_bound, greater_of, widen_bound, widen_diagonal}
use Rattle.zones.specs.Zone.{Bounds, bound, zone_by, Covers}
use Rattle.zones.specs.Steps.{join_of, join_bound, widening_of, widening_bound}
use Rattle.zones.specs.Limits.{IsZone}
use Rattle.zones.proofs.Places.{place-row_column, bound-zone_by, zone_by-each}

pub Covers-each : (a b : Bounds) → ((k : ℕ) → k < 1024 → covers_bound (get_or a k None) (get_or b k None) ≡ true) → Covers a b
unfolding Covers bound
Covers-each a b h p q hp hq = h (32 * p + q) (omega arith)

pub each-Covers : (a b : Bounds) → Covers a b → (k : ℕ) → k < 1024 → covers_bound (get_or a k None) (get_or b k None) ≡ true
unfolding Covers bound
each-Covers a b h k l =
    let t = h (k / 32) (k % 32) (omega arith) (omega arith) in
    rw (place-row_column k) at t

pub Covers-not : (a b : Bounds) (k : ℕ) → k < 1024 → covers_bound (get_or a k None) (get_or b k None) ≡ false → Covers a b → ⊥
Covers-not a b k h e c = let s = each-Covers a b c k h in let bad : false ≡ true = sym e ∙ s in cc

covers_bound-same : (a : Option ℤ) → covers_bound a a ≡ true
covers_bound-same None = refl
covers_bound-same (Some a) = grind (arith, ints)

covers_bound-through : (a b c : Option ℤ) → covers_bound a b ≡ true → covers_bound b c ≡ true → covers_bound a c ≡ true
covers_bound-through None b c h k = refl
covers_bound-through (Some a) None c h k = cc
covers_bound-through (Some a) (Some b) None h k = cc
covers_bound-through (Some a) (Some b) (Some c) h k = grind (arith, ints)

covers_bound-both : (a b : Option ℤ) → covers_bound a b ≡ true → covers_bound b a ≡ true → a ≡ b
covers_bound-both None None h k = refl
covers_bound-both None (Some b) h k = cc
covers_bound-both (Some a) None h k = cc
covers_bound-both (Some a) (Some b) h k = grind (arith, ints)

covers_bound-greater_of : (a b : Option ℤ) → covers_bound (greater_of a b) a ≡ true
covers_bound-greater_of None b = refl
covers_bound-greater_of (Some a) None = refl
covers_bound-greater_of (Some a) (Some b) = grind (arith, ints)

covers_bound-greater_of_other : (a b : Option ℤ) → covers_bound (greater_of a b) b ≡ true
covers_bound-greater_of_other None b = refl
covers_bound-greater_of_other (Some a) None = refl
covers_bound-greater_of_other (Some a) (Some b) = grind (arith, ints)

covers_bound-least : (z a b : Option ℤ) → covers_bound z a ≡ true → covers_bound z b ≡ true → covers_bound z (greater_of a b) ≡ true
covers_bound-least z None b h k = h
covers_bound-least z (Some a) None h k = k
covers_bound-least z (Some a) (Some b) h k = elim (int_lt a b) as (λ r. covers_bound z (cond r (Some b) (Some a)) ≡ true) [ true ↦ k | false ↦ h ]

covers_bound-widen_bound : (a b : Option ℤ) → covers_bound (widen_bound a b) a ≡ true
covers_bound-widen_bound None b = refl
covers_bound-widen_bound (Some a) None = refl
covers_bound-widen_bound (Some a) (Some b) = grind (arith, ints)

covers_bound-widen_bound_other : (a b : Option ℤ) → covers_bound (widen_bound a b) b ≡ true
covers_bound-widen_bound_other None b = refl
covers_bound-widen_bound_other (Some a) None = refl
covers_bound-widen_bound_other (Some a) (Some b) = grind (arith, ints)

covers_bound-widen_diagonal : (a b : Option ℤ) → covers_bound (widen_diagonal a b) a ≡ true
covers_bound-widen_diagonal None b = refl
covers_bound-widen_diagonal (Some a) None = refl
covers_bound-widen_diagonal (Some a) (Some b) = grind (arith, ints)

covers_bound-widen_diagonal_other : (a b : Option ℤ) → covers_bound (widen_diagonal a b) b ≡ true
covers_bound-widen_diagonal_other None b = refl
covers_bound-widen_diagonal_other (Some a) None = refl
covers_bound-widen_diagonal_other (Some a) (Some b) = grind (arith, ints)

pub Covers-same : (a : Bounds) → Covers a a
unfolding Covers
Covers-same a p q hp hq = covers_bound-same (bound a p q)

pub Covers-through : (a b c : Bounds) → Covers a b → Covers b c → Covers a c
unfolding Covers
Covers-through a b c h k p q hp hq = covers_bound-through (bound a p q) (bound b p q) (bound c p q) (h p q hp hq) (k p q hp hq)

-- zones that cover one another are one
pub Covers-both : (a b : Bounds) → IsZone a → IsZone b → Covers a b → Covers b a → a ≡ b
unfolding Covers
Covers-both a b wa wb h k =
    let same : (p q : ℕ) → p < 32 → q < 32 → bound a p q ≡ bound b p q =
    λ p q hp hq. covers_bound-both (bound a p q) (bound b p q) (h p q hp hq) (k p q hp hq) in
    zone_by-each (bound b) a wa.size same ∙ sym (zone_by-each (bound b) b wb.size (λ p q hp hq. refl))

Covers-zone_by : (f : ℕ → ℕ → Option ℤ) (a : Bounds) → ((p q : ℕ) → p < 32 → q < 32 → covers_bound (f p q) (bound a p q) ≡ true) → Covers (zone_by f) a
unfolding Covers
Covers-zone_by f a h p q hp hq = rw (bound-zone_by f p q hp hq) (h p q hp hq)

pub Covers-join_of : (a b : Bounds) → Covers (join_of a b) a
unfolding join_of join_bound
Covers-join_of a b = Covers-zone_by _ a (λ p q hp hq. covers_bound-greater_of (bound a p q) (bound b p q))

pub Covers-join_of_other : (a b : Bounds) → Covers (join_of a b) b
unfolding join_of join_bound
Covers-join_of_other a b = Covers-zone_by _ b (λ p q hp hq. covers_bound-greater_of_other (bound a p q) (bound b p q))

-- the join is the strongest zone that covers both
pub Covers-join_of_least : (z a b : Bounds) → Covers z a → Covers z b → Covers z (join_of a b)
unfolding Covers join_of join_bound
Covers-join_of_least z a b h k p q hp hq =
    rw (bound-zone_by (join_bound a b) p q hp hq)
    (covers_bound-least (bound z p q) (bound a p q) (bound b p q) (h p q hp hq) (k p q hp hq))

pub Covers-widening_of : (a b : Bounds) → Covers (widening_of a b) a
unfolding widening_of widening_bound
Covers-widening_of a b =
    Covers-zone_by _ a (λ p q hp hq.
    elim (eqb p q) as (λ r. covers_bound (cond r (widen_diagonal (bound a p q) (bound b p q)) (widen_bound (bound a p q) (bound b p q))) (bound a p q) ≡ true) [
      | true ↦ covers_bound-widen_diagonal (bound a p q) (bound b p q)
      | false ↦ covers_bound-widen_bound (bound a p q) (bound b p q)
    ])

pub Covers-widening_of_other : (a b : Bounds) → Covers (widening_of a b) b
unfolding widening_of widening_bound
Covers-widening_of_other a b =
    Covers-zone_by _ b (λ p q hp hq.
    elim (eqb p q) as (λ r. covers_bound (cond r (widen_diagonal (bound a p q) (bound b p q)) (widen_bound (bound a p q) (bound b p q))) (bound b p q) ≡ true) [
      | true ↦ covers_bound-widen_diagonal_other (bound a p q) (bound b p q)
      | false ↦ covers_bound-widen_bound_other (bound a p q) (bound b p q)
    ])
