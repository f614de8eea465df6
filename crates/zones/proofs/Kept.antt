-- Each step gives a zone: 1024 bounds, each within the clip.
use Rattle.std.proofs.Common.{neg_ℤ, ◌≡◌, ◌/◌, ◌%◌, ℕ, ℤ, pos, map, Option, None, Some, arith, Bool, int_lt, true, false, cond, eqb, inl, inr}
use Rattle.std.proofs.lemmas.Int.{ints}
use Rattle.std.proofs.lemmas.Bool.{cases_lt}
use Rattle.std.proofs.lemmas.List.{get_or_past}
use Rattle.std.proofs.lemmas.List.FromFn.{get_or-map-range_with_len, length-map-range_with_len}
use Rattle.std.specs.List.{range_with_len}
use Rattle.zones.specs.Bound.{IsKept, clip, clip_bound, greater_of, lesser_of, sum_of, negative_of, widen_bound, widen_diagonal}
use Rattle.zones.specs.Zone.{Bounds, bound, zone_by}
use Rattle.zones.specs.Steps.{after_guard, guard_bound, after_set, set_bound, after_shift, shift_bound, after_forget, forget_bound, join_of, join_bound, widening_of, widening_bound, after_put, put_bound, any_zone, any_bound}
use Rattle.zones.specs.Limits.{IsZone}

IsKept-clip : (c : ℤ) → IsKept (clip c)
IsKept-clip c = grind (arith, ints)

IsKept-clip_bound : (b : Option ℤ) → IsKept (clip_bound b)
IsKept-clip_bound None = tt
IsKept-clip_bound (Some c) = IsKept-clip c

-- a kept number is clipped to itself
pub clip-is : (c d : ℤ) → c ≡ d → IsKept (Some d) → clip c ≡ Some d
clip-is c d e h = let low = h.0 in let high = h.1 in grind (arith, ints)

pub IsKept-negative : (c d : ℤ) → IsKept (Some c) → d ≡ neg_ℤ c → IsKept (Some d)
IsKept-negative c d h e = let low = h.0 in let high = h.1 in (omega (arith, ints), omega (arith, ints))

IsKept-greater_of : (a b : Option ℤ) → IsKept a → IsKept b → IsKept (greater_of a b)
IsKept-greater_of None b h k = tt
IsKept-greater_of (Some a) None h k = tt
IsKept-greater_of (Some a) (Some b) h k = elim (int_lt a b) as (λ r. IsKept (cond r (Some b) (Some a))) [ true ↦ k | false ↦ h ]

IsKept-zero : IsKept (Some (pos 0))
IsKept-zero = (omega (arith, ints), omega (arith, ints))

IsKept-widen_bound : (a b : Option ℤ) → IsKept a → IsKept (widen_bound a b)
IsKept-widen_bound None b h = tt
IsKept-widen_bound (Some a) None h = tt
IsKept-widen_bound (Some a) (Some b) h = elim (int_lt a b) as (λ r. IsKept (cond r None (Some a))) [ true ↦ tt | false ↦ h ]

IsKept-widen_diagonal : (a b : Option ℤ) → IsKept a → IsKept b → IsKept (widen_diagonal a b)
IsKept-widen_diagonal None b h k = tt
IsKept-widen_diagonal (Some a) None h k = tt
IsKept-widen_diagonal (Some a) (Some b) h k =
    elim (int_lt a b) as (λ r. IsKept (cond r (greater_of (Some (pos 0)) (Some b)) (Some a))) [
      | true ↦ IsKept-greater_of (Some (pos 0)) (Some b) IsKept-zero k
      | false ↦ h
    ]

IsKept-four : (r t : Bool) (a b c d : Option ℤ) → IsKept a → IsKept b → IsKept c → IsKept d → IsKept (cond r (cond t a b) (cond t c d))
IsKept-four true true a b c d ha hb hc hd = ha
IsKept-four true false a b c d ha hb hc hd = hb
IsKept-four false true a b c d ha hb hc hd = hc
IsKept-four false false a b c d ha hb hc hd = hd

pub IsKept-bound : (zone : Bounds) (x y : ℕ) → IsZone zone → IsKept (bound zone x y)
unfolding bound
IsKept-bound zone x y h = h.kept _

IsZone-zone_by : (f : ℕ → ℕ → Option ℤ) → ((p q : ℕ) → IsKept (f p q)) → IsZone (zone_by f)
unfolding zone_by
IsZone-zone_by f h = record {
  size = length-map-range_with_len (λ k. f (k / 32) (k % 32)) 0 1024;
  kept = λ k.
      elim (cases_lt k 1024) [
        | inl l ↦ rw (get_or-map-range_with_len (λ k. f (k / 32) (k % 32)) 0 1024 k k None l (omega arith)) (h _ _)
        | inr l ↦ rw (get_or_past (map (λ k. f (k / 32) (k % 32)) (range_with_len 0 1024)) k None (rw (length-map-range_with_len (λ k. f (k / 32) (k % 32)) 0 1024) l)) tt
      ];
}

pub IsZone-any_zone : IsZone any_zone
unfolding any_zone
IsZone-any_zone = IsZone-zone_by any_bound (λ p q. elim (eqb p q) as (λ r. IsKept (cond r (Some (pos 0)) None)) [ true ↦ IsKept-zero | false ↦ tt ])

pub IsZone-after_guard : (zone : Bounds) (x y : ℕ) (c : ℤ) → IsZone (after_guard zone x y c)
unfolding after_guard guard_bound
IsZone-after_guard zone x y c = IsZone-zone_by _ (λ p q. IsKept-clip_bound (lesser_of (bound zone p q) (sum_of (sum_of (bound zone p x) (Some c)) (bound zone y q))))

pub IsZone-after_set : (zone : Bounds) (x y : ℕ) (c : ℤ) → IsZone zone → IsZone (after_set zone x y c)
unfolding after_set set_bound
IsZone-after_set zone x y c h =
    IsZone-zone_by _ (λ p q. IsKept-four (eqb p x) (eqb q x) _ _ _ _ IsKept-zero
    (IsKept-clip_bound (sum_of (bound zone y q) (Some c)))
    (IsKept-clip_bound (sum_of (bound zone p y) (negative_of (Some c))))
    (IsKept-bound zone p q h))

pub IsZone-after_shift : (zone : Bounds) (x : ℕ) (low high : Option ℤ) → IsZone zone → IsZone (after_shift zone x low high)
unfolding after_shift shift_bound
IsZone-after_shift zone x low high h =
    IsZone-zone_by _ (λ p q. IsKept-four (eqb p x) (eqb q x) _ _ _ _ (IsKept-bound zone x x h)
    (IsKept-clip_bound (sum_of (bound zone x q) high))
    (IsKept-clip_bound (sum_of (bound zone p x) (negative_of low)))
    (IsKept-bound zone p q h))

pub IsZone-after_forget : (zone : Bounds) (x : ℕ) → IsZone zone → IsZone (after_forget zone x)
unfolding after_forget forget_bound
IsZone-after_forget zone x h = IsZone-zone_by _ (λ p q. IsKept-four (eqb p x) (eqb q x) (Some (pos 0)) None None _ IsKept-zero tt tt (IsKept-bound zone p q h))

pub IsZone-join_of : (a b : Bounds) → IsZone a → IsZone b → IsZone (join_of a b)
unfolding join_of join_bound
IsZone-join_of a b h k = IsZone-zone_by _ (λ p q. IsKept-greater_of _ _ (IsKept-bound a p q h) (IsKept-bound b p q k))

pub IsZone-widening_of : (a b : Bounds) → IsZone a → IsZone b → IsZone (widening_of a b)
unfolding widening_of widening_bound
IsZone-widening_of a b h k =
    IsZone-zone_by _ (λ p q.
    elim (eqb p q) as (λ r. IsKept (cond r (widen_diagonal (bound a p q) (bound b p q)) (widen_bound (bound a p q) (bound b p q)))) [
      | true ↦ IsKept-widen_diagonal (bound a p q) (bound b p q) (IsKept-bound a p q h) (IsKept-bound b p q k)
      | false ↦ IsKept-widen_bound (bound a p q) (bound b p q) (IsKept-bound a p q h)
    ])

pub IsZone-after_put : (zone : Bounds) (x y : ℕ) (replacement : Option ℤ) → IsZone zone → IsZone (after_put zone x y replacement)
unfolding after_put put_bound
IsZone-after_put zone x y replacement h =
    IsZone-zone_by _ (λ p q.
    elim (eqb p x) as (λ r. IsKept (cond r (cond (eqb q y) (clip_bound replacement) (bound zone p q)) (bound zone p q))) [
      | true ↦ elim (eqb q y) as (λ r. IsKept (cond r (clip_bound replacement) (bound zone p q))) [
        | true ↦ IsKept-clip_bound replacement
        | false ↦ IsKept-bound zone p q h
      ]
      | false ↦ IsKept-bound zone p q h
    ])
