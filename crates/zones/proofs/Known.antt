-- What is known is true, numbers of which one is changed, and how differences obey bounds.
use Rattle.std.proofs.Common.{◌≡◌, ◌<◌, ℕ, ℤ, ◌+ℤ◌, ◌-ℤ◌, ◌≤ℤ◌, true, Option, None, Some, arith, refl}
use Rattle.std.proofs.lemmas.Int.{ints}
use Rattle.std.proofs.lemmas.Bool.{eq-eqb, ne_eqb}
use Rattle.zones.specs.Bound.{Obeys, sum_of, negative_of}
use Rattle.zones.specs.Zone.{Bounds, Numbers, bound, Holds, ChangesOnly, updated}
use Rattle.zones.specs.Known.{is_within, known, least, greatest}
use Rattle.zones.proofs.Soundness.{Obeys-bound}

is_within-true : (d c : ℤ) (b : Option ℤ) → is_within b c ≡ true → Obeys d b → d ≤ℤ c
is_within-true d c None e h = cc
is_within-true d c (Some f) e h = grind (arith, ints)

pub known-true : (zone : Bounds) (number : Numbers) (x y : ℕ) (c : ℤ) → known zone x y c ≡ true → x < 32 → y < 32 → Holds zone number → (number x -ℤ number y) ≤ℤ c
unfolding known
known-true zone number x y c e hx hy holds = is_within-true _ c (bound zone x y) e (Obeys-bound zone x y number hx hy holds)

pub Obeys-greatest : (zone : Bounds) (number : Numbers) (x y : ℕ) → x < 32 → y < 32 → Holds zone number → Obeys (number x -ℤ number y) (greatest zone x y)
Obeys-greatest zone number x y hx hy holds = Obeys-bound zone x y number hx hy holds

pub Obeys-twice_negative : (d e : ℤ) (b : Option ℤ) → Obeys d b → e ≡ d → Obeys e (negative_of (negative_of b))
Obeys-twice_negative d e None h q = tt
Obeys-twice_negative d e (Some c) h q = omega (arith, ints)

pub Obeys-least : (zone : Bounds) (number : Numbers) (x y : ℕ) → x < 32 → y < 32 → Holds zone number → Obeys (number y -ℤ number x) (negative_of (least zone x y))
Obeys-least zone number x y hx hy holds =
    Obeys-twice_negative (number y -ℤ number x) (number y -ℤ number x) (bound zone y x) (Obeys-bound zone y x number hy hx holds) refl

pub updated-same : (number : Numbers) (x : ℕ) (n : ℤ) → updated number x n x ≡ n
updated-same number x n = rw (eq-eqb x x refl) refl

pub updated-other : (number : Numbers) (x : ℕ) (n : ℤ) → ChangesOnly x number (updated number x n)
updated-other number x n p h = rw (ne_eqb p x h) refl

pub Holds-same : (zone : Bounds) (before after : Numbers) → ((p : ℕ) → after p ≡ before p) → Holds zone before → Holds zone after
unfolding Holds
Holds-same zone before after same h p q hp hq = rw (same p, same q) (h p q hp hq)

pub Obeys-less : (d e : ℤ) (b : Option ℤ) → Obeys d b → e ≤ℤ d → Obeys e b
Obeys-less d e None h k = tt
Obeys-less d e (Some c) h k = omega (arith, ints)

pub Obeys-negative_sum : (d e f : ℤ) (a b : Option ℤ) → Obeys d (negative_of a) → Obeys e (negative_of b) → f ≡ d +ℤ e → Obeys f (negative_of (sum_of a b))
Obeys-negative_sum d e f None b h k q = tt
Obeys-negative_sum d e f (Some a) None h k q = tt
Obeys-negative_sum d e f (Some a) (Some b) h k q = omega (arith, ints)
