-- Each step is sound: where the zone before holds of the numbers before, the zone after holds of those after.
use Rattle.std.proofs.Common.{◌≡◌, ◌≢◌, ◌<◌, inl, inr, ℕ, ℤ, neg_ℤ, ◌+ℤ◌, ◌-ℤ◌, ◌≤ℤ◌, Option, None, Some, true, cond, eqb, int_lt, false, arith}
use Rattle.std.proofs.lemmas.Int.{ints}
use Rattle.std.proofs.lemmas.Bool.Decides.{eqb_tells}
use Rattle.zones.specs.Bound.{Obeys, clip, clip_bound, lesser_of, sum_of, tighten, raise, negative_of, covers_bound}
use Rattle.zones.specs.Zone.{Bounds, Numbers, bound, zone_by, Holds, ChangesOnly, Covers}
use Rattle.zones.specs.Steps.{any_zone, any_bound, after_guard, guard_bound, after_set, set_bound, after_shift, shift_bound, after_forget, forget_bound, join_of, widening_of, after_put, put_bound}
use Rattle.zones.proofs.Places.{bound-zone_by}
use Rattle.zones.proofs.Order.{Covers-join_of, Covers-join_of_other, Covers-widening_of, Covers-widening_of_other}

Obeys-clip : (d c : ℤ) → d ≤ℤ c → Obeys d (clip c)
Obeys-clip d c h = grind (arith, ints)

Obeys-clip_bound : (d : ℤ) (b : Option ℤ) → Obeys d b → Obeys d (clip_bound b)
Obeys-clip_bound d None h = h
Obeys-clip_bound d (Some c) h = Obeys-clip d c h

Obeys-lesser_of : (d : ℤ) (a b : Option ℤ) → Obeys d a → Obeys d b → Obeys d (lesser_of a b)
Obeys-lesser_of d None b h k = k
Obeys-lesser_of d (Some a) None h k = h
Obeys-lesser_of d (Some a) (Some b) h k = elim (int_lt b a) as (λ r. Obeys d (cond r (Some b) (Some a))) [ true ↦ k | false ↦ h ]

pub Obeys-sum_of : (d e f : ℤ) (a b : Option ℤ) → Obeys d a → Obeys e b → f ≡ d +ℤ e → Obeys f (sum_of a b)
Obeys-sum_of d e f None b h k q = tt
Obeys-sum_of d e f (Some a) None h k q = tt
Obeys-sum_of d e f (Some a) (Some b) h k q = omega (arith, ints)

Obeys-raise : (d e f : ℤ) (a b : Option ℤ) → Obeys d a → Obeys e b → f ≡ d +ℤ e → Obeys f (raise a b)
Obeys-raise d e f a b h k q = Obeys-clip_bound f (sum_of a b) (Obeys-sum_of d e f a b h k q)

Obeys-tighten : (p x y q c : ℤ) (direct to from : Option ℤ) →
    Obeys (p -ℤ q) direct → Obeys (p -ℤ x) to → (x -ℤ y) ≤ℤ c → Obeys (y -ℤ q) from → Obeys (p -ℤ q) (tighten direct to c from)
Obeys-tighten p x y q c direct to from d t h f =
    Obeys-clip_bound _ _ (Obeys-lesser_of _ _ _ d
    (Obeys-sum_of (p -ℤ y) (y -ℤ q) _ (sum_of to (Some c)) from
    (Obeys-sum_of (p -ℤ x) (x -ℤ y) _ to (Some c) t h (omega (arith, ints))) f (omega (arith, ints))))

Obeys-covers_bound : (d : ℤ) (a b : Option ℤ) → covers_bound a b ≡ true → Obeys d b → Obeys d a
Obeys-covers_bound d None b e h = tt
Obeys-covers_bound d (Some a) None e h = cc
Obeys-covers_bound d (Some a) (Some b) e h = grind (arith, ints)

Holds-zone_by : (f : ℕ → ℕ → Option ℤ) (number : Numbers) →
    ((p q : ℕ) → p < 32 → q < 32 → Obeys (number p -ℤ number q) (f p q)) → Holds (zone_by f) number
unfolding Holds
Holds-zone_by f number h p q hp hq = rw (bound-zone_by f p q hp hq) (h p q hp hq)

pub Obeys-bound : (zone : Bounds) (x y : ℕ) (number : Numbers) → x < 32 → y < 32 → Holds zone number → Obeys (number x -ℤ number y) (bound zone x y)
unfolding Holds
Obeys-bound zone x y number hx hy holds = holds x y hx hy

pub Holds-any_zone : (number : Numbers) → Holds any_zone number
unfolding any_zone
Holds-any_zone number =
    Holds-zone_by any_bound number (λ p q hp hq.
    elim (eqb_tells p q) [ inl e ↦ rw (e.0, e.1) (omega (arith, ints)) | inr e ↦ rw e.0 tt ])

pub Holds-after_guard : (zone : Bounds) (x y : ℕ) (c : ℤ) (number : Numbers) → x < 32 → y < 32 →
    Holds zone number → (number x -ℤ number y) ≤ℤ c → Holds (after_guard zone x y c) number
unfolding after_guard guard_bound Holds
Holds-after_guard zone x y c number hx hy holds h =
    Holds-zone_by _ number (λ p q hp hq.
    Obeys-tighten (number p) (number x) (number y) (number q) c _ _ _ (holds p q hp hq) (holds p x hp hx) h (holds y q hy hq))

-- the zone with another row, another column and another corner of x
unfoldable with_cross : Bounds → ℕ → (ℕ → Option ℤ) → (ℕ → Option ℤ) → Option ℤ → Bounds
with_cross zone x row column corner =
    zone_by (λ p q. cond (eqb p x) (cond (eqb q x) corner (row q)) (cond (eqb q x) (column p) (bound zone p q)))

Holds-with_cross : (zone : Bounds) (x : ℕ) (row column : ℕ → Option ℤ) (corner : Option ℤ) (before after : Numbers) →
    ChangesOnly x before after →
    ((q : ℕ) → q < 32 → q ≢ x → Obeys (after x -ℤ after q) (row q)) →
    ((p : ℕ) → p < 32 → p ≢ x → Obeys (after p -ℤ after x) (column p)) →
    Obeys (after x -ℤ after x) corner → Holds zone before → Holds (with_cross zone x row column corner) after
unfolding with_cross Holds
Holds-with_cross zone x row column corner before after same in_row in_column in_corner holds =
    Holds-zone_by _ after (λ p q hp hq.
    elim (eqb_tells p x) [
      | inl e ↦ rw (e.0, e.1) (elim (eqb_tells q x) [ inl g ↦ rw (g.0, g.1) in_corner | inr g ↦ rw g.0 (in_row q hq g.1) ])
      | inr e ↦ rw e.0 (elim (eqb_tells q x) [ inl g ↦ rw (g.0, g.1) (in_column p hp e.1) | inr g ↦ rw (g.0, same p e.1, same q g.1) (holds p q hp hq) ])
    ])

pub Holds-after_set : (zone : Bounds) (x y : ℕ) (c : ℤ) (before after : Numbers) → x < 32 → y < 32 →
    Holds zone before → ChangesOnly x before after → after x ≡ before y +ℤ c → Holds (after_set zone x y c) after
unfolding after_set set_bound with_cross Holds
Holds-after_set zone x y c before after hx hy holds same e =
    Holds-with_cross zone x _ _ _ before after same
    (λ q hq n.
    let s : after q ≡ before q = same q n in
    Obeys-raise (before y -ℤ before q) c _ _ (Some c) (holds y q hy hq) (omega (arith, ints)) (rw (e, s) (omega (arith, ints))))
    (λ p hp n.
    let s : after p ≡ before p = same p n in
    Obeys-raise (before p -ℤ before y) (neg_ℤ c) _ _ (Some (neg_ℤ c)) (holds p y hp hy) (omega (arith, ints)) (rw (e, s) (omega (arith, ints))))
    (omega (arith, ints)) holds

pub Holds-after_shift : (zone : Bounds) (x : ℕ) (low high : Option ℤ) (before after : Numbers) → x < 32 →
    Holds zone before → ChangesOnly x before after →
    Obeys (after x -ℤ before x) high → Obeys (before x -ℤ after x) (negative_of low) → Holds (after_shift zone x low high) after
unfolding after_shift shift_bound with_cross Holds
Holds-after_shift zone x low high before after hx holds same up down =
    Holds-with_cross zone x _ _ _ before after same
    (λ q hq n.
    let s : after q ≡ before q = same q n in
    Obeys-raise (before x -ℤ before q) (after x -ℤ before x) _ _ high (holds x q hx hq) up (rw s (omega (arith, ints))))
    (λ p hp n.
    let s : after p ≡ before p = same p n in
    Obeys-raise (before p -ℤ before x) (before x -ℤ after x) _ _ (negative_of low) (holds p x hp hx) down (rw s (omega (arith, ints))))
    (let e : after x -ℤ after x ≡ before x -ℤ before x = omega (arith, ints) in rw e (holds x x hx hx)) holds

pub Holds-after_forget : (zone : Bounds) (x : ℕ) (before after : Numbers) →
    Holds zone before → ChangesOnly x before after → Holds (after_forget zone x) after
unfolding after_forget forget_bound with_cross Holds
Holds-after_forget zone x before after holds same =
    Holds-with_cross zone x _ _ _ before after same (λ q h n. tt) (λ p h n. tt) (omega (arith, ints)) holds

pub Holds-after_put : (zone : Bounds) (x y : ℕ) (replacement : Option ℤ) (number : Numbers) →
    Holds zone number → Obeys (number x -ℤ number y) replacement → Holds (after_put zone x y replacement) number
unfolding after_put put_bound Holds
Holds-after_put zone x y replacement number holds h =
    Holds-zone_by _ number (λ p q hp hq.
    elim (eqb_tells p x) [
      | inl e ↦ rw e.0 (elim (eqb_tells q y) [
        | inl g ↦ rw (g.0, e.1, g.1) (Obeys-clip_bound _ replacement h)
        | inr g ↦ rw g.0 (holds p q hp hq)
      ])
      | inr e ↦ rw e.0 (holds p q hp hq)
    ])

pub Holds-covers : (weak strong : Bounds) (number : Numbers) → Covers weak strong → Holds strong number → Holds weak number
unfolding Covers Holds
Holds-covers weak strong number c h p q hp hq = Obeys-covers_bound _ (bound weak p q) (bound strong p q) (c p q hp hq) (h p q hp hq)

pub Holds-join_of : (one other : Bounds) (number : Numbers) → Holds one number → Holds (join_of one other) number
Holds-join_of one other number h = Holds-covers _ _ number (Covers-join_of one other) h

pub Holds-join_of_other : (one other : Bounds) (number : Numbers) → Holds other number → Holds (join_of one other) number
Holds-join_of_other one other number h = Holds-covers _ _ number (Covers-join_of_other one other) h

pub Holds-widening_of : (old new : Bounds) (number : Numbers) → Holds old number → Holds (widening_of old new) number
Holds-widening_of old new number h = Holds-covers _ _ number (Covers-widening_of old new) h

pub Holds-widening_of_other : (old new : Bounds) (number : Numbers) → Holds new number → Holds (widening_of old new) number
Holds-widening_of_other old new number h = Holds-covers _ _ number (Covers-widening_of_other old new) h
