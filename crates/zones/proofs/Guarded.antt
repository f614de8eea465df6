-- Guards and known differences: what is known stays, and two guards fix one more name.
use Rattle.std.proofs.Common.{◌≡◌, ◌<◌, ℕ, ℤ, pos, neg_ℤ, ◌+ℤ◌, ◌-ℤ◌, ◌≤ℤ◌, Bool, true, Option, Some, None, arith, refl, ◌∙◌, ap, inl, inr}
use Rattle.std.proofs.lemmas.Int.{ints}
use Rattle.std.proofs.lemmas.Bool.Decides.{eqb_tells}
use Rattle.zones.specs.Bound.{Obeys, IsKept, clip_bound, lesser_of, tighten}
use Rattle.zones.specs.Zone.{Bounds, Numbers, bound, Holds}
use Rattle.zones.specs.Steps.{after_guard, guard_bound}
use Rattle.zones.specs.Limits.{IsZone, IsAtMostZero, HasLowDiagonal}
use Rattle.zones.specs.Differences.{Fixes, with_name}
use Rattle.zones.proofs.Formulas.{bound-after_guard}
use Rattle.zones.proofs.Kept.{IsKept-bound, IsZone-after_guard, clip-is, IsKept-negative}
use Rattle.zones.proofs.Diagonal.{HasLowDiagonal-after_guard}
use Rattle.zones.proofs.Soundness.{Holds-after_guard}

tighten-exact : (d c : ℤ) (to from : Option ℤ) → IsKept (Some d) → Obeys d (tighten (Some d) to c from) → tighten (Some d) to c from ≡ Some d
tighten-exact d c None from h k = clip-is d d refl h
tighten-exact d c (Some to) None h k = clip-is d d refl h
tighten-exact d c (Some to) (Some from) h k = let low = h.0 in let high = h.1 in grind (arith, ints)

-- a known bound stays as it is after a guard that is true of the numbers
bound-after_guard_known : (zone : Bounds) (x y : ℕ) (c : ℤ) (number : Numbers) (p q : ℕ) → x < 32 → y < 32 → p < 32 → q < 32 → IsZone zone →
    Holds zone number → (number x -ℤ number y) ≤ℤ c → bound zone p q ≡ Some (number p -ℤ number q) →
    bound (after_guard zone x y c) p q ≡ Some (number p -ℤ number q)
unfolding Holds guard_bound
bound-after_guard_known zone x y c number p q hx hy hp hq well holds h is =
    let kept : IsKept (Some (number p -ℤ number q)) = rw is at (IsKept-bound zone p q well) in
    let new : bound (after_guard zone x y c) p q ≡ tighten (Some (number p -ℤ number q)) (bound zone p x) c (bound zone y q) =
    bound-after_guard zone x y c p q hp hq ∙ ap (λ b. tighten b (bound zone p x) c (bound zone y q)) is in
    new ∙ tighten-exact (number p -ℤ number q) c (bound zone p x) (bound zone y q) kept
    (rw new at (Holds-after_guard zone x y c number hx hy holds h p q hp hq))

pub Fixes-after_guard : (zone : Bounds) (x y : ℕ) (c : ℤ) (fixed : ℕ → Bool) (number : Numbers) → x < 32 → y < 32 → IsZone zone →
    Fixes zone fixed number → Holds zone number → (number x -ℤ number y) ≤ℤ c → Fixes (after_guard zone x y c) fixed number
unfolding Fixes
Fixes-after_guard zone x y c fixed number hx hy well fixes holds h p q hp hq fp fq =
    bound-after_guard_known zone x y c number p q hx hy hp hq well holds h (fixes p q hp hq fp fq)

-- a diagonal bound that is at most 0 is 0 where the zone holds of numbers
diagonal-is : (zone : Bounds) (number : Numbers) (x : ℕ) → x < 32 → Holds zone number → IsAtMostZero (bound zone x x) → bound zone x x ≡ Some (pos 0)
unfolding Holds
diagonal-is zone number x hx holds low = is_zero (bound zone x x) low (holds x x hx hx)
  where
    is_zero : (b : Option ℤ) → IsAtMostZero b → Obeys (number x -ℤ number x) b → b ≡ Some (pos 0)
    is_zero None h k = absurd h
    is_zero (Some c) h k = let e : c ≡ pos 0 = omega (arith, ints) in ap (λ d. Some d) e

-- the way over two known bounds is the bound, where nothing less is true
lesser-is : (direct : Option ℤ) (s d : ℤ) → Obeys d direct → s ≡ d → IsKept (Some d) → clip_bound (lesser_of direct (Some s)) ≡ Some d
lesser-is None s d h e k = clip-is s d e k
lesser-is (Some b) s d h e k = let low = k.0 in let high = k.1 in grind (arith, ints)

row-after_guard : (zone : Bounds) (x y : ℕ) (c : ℤ) (number : Numbers) (q : ℕ) → x < 32 → q < 32 →
    Holds zone number → bound zone x x ≡ Some (pos 0) → bound zone y q ≡ Some (number y -ℤ number q) → number x ≡ number y +ℤ c →
    IsKept (Some (number x -ℤ number q)) → bound (after_guard zone x y c) x q ≡ Some (number x -ℤ number q)
unfolding Holds guard_bound
row-after_guard zone x y c number q hx hq holds corner is e kept =
    bound-after_guard zone x y c x q hx hq
    ∙ ap (λ to. tighten (bound zone x q) to c (bound zone y q)) corner
    ∙ ap (λ from. tighten (bound zone x q) (Some (pos 0)) c from) is
    ∙ lesser-is (bound zone x q) (pos 0 +ℤ c +ℤ (number y -ℤ number q)) (number x -ℤ number q) (holds x q hx hq) (omega (arith, ints)) kept

column-after_guard : (zone : Bounds) (x y : ℕ) (c : ℤ) (number : Numbers) (p : ℕ) → x < 32 → p < 32 →
    Holds zone number → bound zone x x ≡ Some (pos 0) → bound zone p y ≡ Some (number p -ℤ number y) → number x ≡ number y +ℤ c →
    IsKept (Some (number p -ℤ number x)) → bound (after_guard zone y x (neg_ℤ c)) p x ≡ Some (number p -ℤ number x)
unfolding Holds guard_bound
column-after_guard zone x y c number p hx hp holds corner is e kept =
    bound-after_guard zone y x (neg_ℤ c) p x hp hx
    ∙ ap (λ to. tighten (bound zone p x) to (neg_ℤ c) (bound zone x x)) is
    ∙ ap (λ from. tighten (bound zone p x) (Some (number p -ℤ number y)) (neg_ℤ c) from) corner
    ∙ lesser-is (bound zone p x) ((number p -ℤ number y) +ℤ neg_ℤ c +ℤ pos 0) (number p -ℤ number x) (holds p x hp hx) (omega (arith, ints)) kept

-- known row, column and corner of x fix it beside the fixed names
Fixes-with_name : (zone : Bounds) (x : ℕ) (fixed : ℕ → Bool) (number : Numbers) → Fixes zone fixed number →
    bound zone x x ≡ Some (pos 0) →
    ((q : ℕ) → q < 32 → fixed q ≡ true → bound zone x q ≡ Some (number x -ℤ number q)) →
    ((p : ℕ) → p < 32 → fixed p ≡ true → bound zone p x ≡ Some (number p -ℤ number x)) →
    Fixes zone (with_name x fixed) number
unfolding Fixes
Fixes-with_name zone x fixed number fixes corner row column p q hp hq fp fq =
    elim (eqb_tells p x) [
      | inl i ↦ (elim (eqb_tells q x) [
        | inl j ↦ rw (i.1, j.1) (corner ∙ ap (λ d. Some d) (omega (arith, ints)))
        | inr j ↦ rw i.1 (row q hq (rw j.0 at fq))
      ])
      | inr i ↦ (elim (eqb_tells q x) [
        | inl j ↦ rw j.1 (column p hp (rw i.0 at fp))
        | inr j ↦ fixes p q hp hq (rw i.0 at fp) (rw j.0 at fq)
      ])
    ]

pub Fixes-after_guards : (zone : Bounds) (x y : ℕ) (c : ℤ) (fixed : ℕ → Bool) (number : Numbers) → x < 32 → y < 32 →
    IsZone zone → HasLowDiagonal zone → Holds zone number → Fixes zone fixed number → fixed y ≡ true → number x ≡ number y +ℤ c →
    ((q : ℕ) → q < 32 → fixed q ≡ true → IsKept (Some (number x -ℤ number q))) →
    Fixes (after_guard (after_guard zone y x (neg_ℤ c)) x y c) (with_name x fixed) number
unfolding Fixes HasLowDiagonal
Fixes-after_guards zone x y c fixed number hx hy well low holds fixes fy e kept =
    let down : (number y -ℤ number x) ≤ℤ neg_ℤ c = omega (arith, ints) in
    let up : (number x -ℤ number y) ≤ℤ c = omega (arith, ints) in
    let half = after_guard zone y x (neg_ℤ c) in
    let well_half = IsZone-after_guard zone y x (neg_ℤ c) in
    let holds_half = Holds-after_guard zone y x (neg_ℤ c) number hy hx holds down in
    let fixes_half = Fixes-after_guard zone y x (neg_ℤ c) fixed number hy hx well fixes holds down in
    let low_half = HasLowDiagonal-after_guard zone y x (neg_ℤ c) low in
    let corner_half = diagonal-is half number x hx holds_half (low_half x hx) in
    let holds_both = Holds-after_guard half x y c number hx hy holds_half up in
    let low_both = HasLowDiagonal-after_guard half x y c low_half in
    Fixes-with_name (after_guard half x y c) x fixed number
    (Fixes-after_guard half x y c fixed number hx hy well_half fixes_half holds_half up)
    (diagonal-is (after_guard half x y c) number x hx holds_both (low_both x hx))
    (λ q hq fq. row-after_guard half x y c number q hx hq holds_half corner_half (fixes_half y q hy hq fy fq) e (kept q hq fq))
    (λ p hp fp. bound-after_guard_known half x y c number p x hx hy hp hx well_half holds_half up
    (column-after_guard zone x y c number p hx hp holds (diagonal-is zone number x hx holds (low x hx)) (fixes p y hp hy fp fy) e
    (IsKept-negative (number x -ℤ number p) (number p -ℤ number x) (kept p hp fp) (omega (arith, ints)))))
