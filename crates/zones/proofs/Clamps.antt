-- Offsets may be clamped before they are added.
use Rattle.std.proofs.Common.{◌≡◌, ℕ, ℤ, pos, negsuc, neg_ℤ, ◌+ℤ◌, ◌≤ℤ◌, ◌<ℤ◌, Bool, true, false, cond, eqb, Option, Some, None, arith, refl}
use Rattle.std.proofs.lemmas.Int.{ints, by_lt_z}
use Rattle.zones.specs.Bound.{highest, lowest, IsKept, clip, clip_bound, lesser_of, raise, lower, tighten}
use Rattle.zones.specs.Zone.{Bounds, bound}
use Rattle.zones.specs.Steps.{after_guard, guard_bound, after_set, set_bound, after_shift, shift_bound}
use Rattle.zones.specs.Limits.{IsZone, clamp, clamp_side}
use Rattle.zones.proofs.Formulas.{zone_by-same}
use Rattle.zones.proofs.Kept.{IsKept-bound}

clip-high : (x : ℤ) → highest <ℤ x → clip x ≡ None
clip-high x h = grind (arith, ints)

clip-low : (x : ℤ) → x <ℤ lowest → clip x ≡ Some lowest
clip-low x h = grind (arith, ints)

clamp-high : (c : ℤ) → pos 4000000000000000 <ℤ c → clamp c ≡ pos 4000000000000000
clamp-high c h = grind (arith, ints)

clamp-low : (c : ℤ) → c <ℤ negsuc 3999999999999999 → clamp c ≡ negsuc 3999999999999999
clamp-low c h = grind (arith, ints)

clamp-else : (c : ℤ) → negsuc 3999999999999999 ≤ℤ c → c ≤ℤ pos 4000000000000000 → clamp c ≡ c
clamp-else c h k = grind (arith, ints)

-- a sum with a number of at most 3 * 10^15 on either side is clipped alike
clip-clamp : (a c : ℤ) → negsuc 2999999999999998 ≤ℤ a → a ≤ℤ pos 2999999999999999 → clip (a +ℤ clamp c) ≡ clip (a +ℤ c)
clip-clamp a c low high =
    by_lt_z (pos 4000000000000000) c
    (λ h. rw (clamp-high c h, clip-high (a +ℤ pos 4000000000000000) (omega (arith, ints)), clip-high (a +ℤ c) (omega (arith, ints))) refl)
    (λ k. by_lt_z c (negsuc 3999999999999999)
    (λ h. rw (clamp-low c h, clip-low (a +ℤ negsuc 3999999999999999) (omega (arith, ints)), clip-low (a +ℤ c) (omega (arith, ints))) refl)
    (λ h. rw (clamp-else c h k) refl))

clip-clamp_lowered : (a c : ℤ) → negsuc 2999999999999998 ≤ℤ a → a ≤ℤ pos 2999999999999999 → clip (a +ℤ neg_ℤ (clamp c)) ≡ clip (a +ℤ neg_ℤ c)
clip-clamp_lowered a c low high =
    by_lt_z (pos 4000000000000000) c
    (λ h. rw (clamp-high c h, clip-low (a +ℤ negsuc 3999999999999999) (omega (arith, ints)), clip-low (a +ℤ neg_ℤ c) (omega (arith, ints))) refl)
    (λ k. by_lt_z c (negsuc 3999999999999999)
    (λ h. rw (clamp-low c h, clip-high (a +ℤ pos 4000000000000000) (omega (arith, ints)), clip-high (a +ℤ neg_ℤ c) (omega (arith, ints))) refl)
    (λ h. rw (clamp-else c h k) refl))

raise-clamp : (b : Option ℤ) (c : ℤ) → IsKept b → raise b (Some (clamp c)) ≡ raise b (Some c)
raise-clamp None c h = refl
raise-clamp (Some b) c h = let low = h.0 in let high = h.1 in clip-clamp b c (omega (arith, ints)) (omega (arith, ints))

lower-clamp : (b : Option ℤ) (c : ℤ) → IsKept b → lower b (Some (clamp c)) ≡ lower b (Some c)
lower-clamp None c h = refl
lower-clamp (Some b) c h = let low = h.0 in let high = h.1 in clip-clamp_lowered b c (omega (arith, ints)) (omega (arith, ints))

raise-clamp_side : (b by : Option ℤ) → IsKept b → raise b (clamp_side by) ≡ raise b by
raise-clamp_side b None h = refl
raise-clamp_side b (Some c) h = raise-clamp b c h

lower-clamp_side : (b by : Option ℤ) → IsKept b → lower b (clamp_side by) ≡ lower b by
lower-clamp_side b None h = refl
lower-clamp_side b (Some c) h = lower-clamp b c h

-- the four cases of a step on a row and a column, of which two agree
cond-four : (r t : Bool) (a b b' c c' d : Option ℤ) → b ≡ b' → c ≡ c' → cond r (cond t a b) (cond t c d) ≡ cond r (cond t a b') (cond t c' d)
cond-four true true a b b' c c' d h k = refl
cond-four true false a b b' c c' d h k = h
cond-four false true a b b' c c' d h k = k
cond-four false false a b b' c c' d h k = refl

pub after_set-clamp : (zone : Bounds) (x y : ℕ) (c : ℤ) → IsZone zone → after_set zone x y (clamp c) ≡ after_set zone x y c
unfolding after_set set_bound
after_set-clamp zone x y c h =
    zone_by-same _ _ (λ p q hp hq. cond-four (eqb p x) (eqb q x) (Some (pos 0)) _ _ _ _ (bound zone p q)
    (raise-clamp (bound zone y q) c (IsKept-bound zone y q h)) (lower-clamp (bound zone p y) c (IsKept-bound zone p y h)))

pub after_shift-clamp : (zone : Bounds) (x : ℕ) (low high : Option ℤ) → IsZone zone → after_shift zone x (clamp_side low) (clamp_side high) ≡ after_shift zone x low high
unfolding after_shift shift_bound
after_shift-clamp zone x low high h =
    zone_by-same _ _ (λ p q hp hq. cond-four (eqb p x) (eqb q x) (bound zone x x) _ _ _ _ (bound zone p q)
    (raise-clamp_side (bound zone x q) high (IsKept-bound zone x q h)) (lower-clamp_side (bound zone p x) low (IsKept-bound zone p x h)))

-- a sum above the highest number is never the lesser of two, and one below the lowest is clipped
clip-lesser_above : (a s t : ℤ) → a ≤ℤ highest → highest <ℤ s → highest <ℤ t → clip_bound (lesser_of (Some a) (Some s)) ≡ clip_bound (lesser_of (Some a) (Some t))
clip-lesser_above a s t h k l = grind (arith, ints)

clip-lesser_below : (a s t : ℤ) → lowest ≤ℤ a → s <ℤ lowest → t <ℤ lowest → clip_bound (lesser_of (Some a) (Some s)) ≡ clip_bound (lesser_of (Some a) (Some t))
clip-lesser_below a s t h k l = grind (arith, ints)

tighten-clamp_numbers : (a to from c : ℤ) → lowest ≤ℤ a → a ≤ℤ highest → lowest ≤ℤ to → to ≤ℤ highest → lowest ≤ℤ from → from ≤ℤ highest →
    tighten (Some a) (Some to) (clamp c) (Some from) ≡ tighten (Some a) (Some to) c (Some from)
tighten-clamp_numbers a to from c la ha lt ht lf hf =
    by_lt_z (pos 4000000000000000) c
    (λ h. rw (clamp-high c h) (clip-lesser_above a (to +ℤ pos 4000000000000000 +ℤ from) (to +ℤ c +ℤ from) ha (omega (arith, ints)) (omega (arith, ints))))
    (λ k. by_lt_z c (negsuc 3999999999999999)
    (λ h. rw (clamp-low c h) (clip-lesser_below a (to +ℤ negsuc 3999999999999999 +ℤ from) (to +ℤ c +ℤ from) la (omega (arith, ints)) (omega (arith, ints))))
    (λ h. rw (clamp-else c h k) refl))

tighten-clamp_any : (to from c : ℤ) → lowest ≤ℤ to → to ≤ℤ highest → lowest ≤ℤ from → from ≤ℤ highest →
    tighten None (Some to) (clamp c) (Some from) ≡ tighten None (Some to) c (Some from)
tighten-clamp_any to from c lt ht lf hf =
    by_lt_z (pos 4000000000000000) c
    (λ h. rw (clamp-high c h, clip-high (to +ℤ pos 4000000000000000 +ℤ from) (omega (arith, ints)), clip-high (to +ℤ c +ℤ from) (omega (arith, ints))) refl)
    (λ k. by_lt_z c (negsuc 3999999999999999)
    (λ h. rw (clamp-low c h, clip-low (to +ℤ negsuc 3999999999999999 +ℤ from) (omega (arith, ints)), clip-low (to +ℤ c +ℤ from) (omega (arith, ints))) refl)
    (λ h. rw (clamp-else c h k) refl))

tighten-clamp : (direct to from : Option ℤ) (c : ℤ) → IsKept direct → IsKept to → IsKept from → tighten direct to (clamp c) from ≡ tighten direct to c from
tighten-clamp None None from c h k l = refl
tighten-clamp (Some a) None from c h k l = refl
tighten-clamp None (Some to) None c h k l = refl
tighten-clamp (Some a) (Some to) None c h k l = refl
tighten-clamp None (Some to) (Some from) c h k l = tighten-clamp_any to from c k.0 k.1 l.0 l.1
tighten-clamp (Some a) (Some to) (Some from) c h k l = tighten-clamp_numbers a to from c h.0 h.1 k.0 k.1 l.0 l.1

pub after_guard-clamp : (zone : Bounds) (x y : ℕ) (c : ℤ) → IsZone zone → after_guard zone x y (clamp c) ≡ after_guard zone x y c
unfolding after_guard guard_bound
after_guard-clamp zone x y c h =
    zone_by-same _ _ (λ p q hp hq. tighten-clamp (bound zone p q) (bound zone p x) (bound zone y q) c
    (IsKept-bound zone p q h) (IsKept-bound zone p x h) (IsKept-bound zone y q h))

-- of a kept bound and a way the lesser may be clipped, or the way alone before
lesser-clip_number : (d way : ℤ) → lowest ≤ℤ d → d ≤ℤ highest → lesser_of (Some d) (clip way) ≡ clip_bound (lesser_of (Some d) (Some way))
lesser-clip_number d way low high = grind (arith, ints)

pub lesser-clip : (direct : Option ℤ) (way : ℤ) → IsKept direct → lesser_of direct (clip way) ≡ clip_bound (lesser_of direct (Some way))
lesser-clip None way h = refl
lesser-clip (Some d) way h = lesser-clip_number d way h.0 h.1
