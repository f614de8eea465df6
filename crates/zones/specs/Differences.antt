-- Known differences: what a zone says where the two bounds of a pair are one number, counted both ways.
use Rattle.std.specs.Prelude.{◌≡◌, true, Bool, ◌==◌, ◌||◌, ℕ, ◌<◌, ℤ, neg_ℤ, ◌-ℤ◌, Some}
use Rattle.zones.specs.Zone.{Bounds, Numbers, bound}

-- x - y is known to be d: both bounds of the pair say so
abbrev pub IsDifference : Bounds → ℕ → ℕ → ℤ → Type 0
IsDifference zone x y d = (bound zone x y ≡ Some d) × (bound zone y x ≡ Some (neg_ℤ d))

-- a zone fixes some names at their numbers where the bound of each two of them is their difference
unfoldable pub Fixes : Bounds → (ℕ → Bool) → Numbers → Type 0
Fixes zone fixed number =
    (p q : ℕ) → p < 32 → q < 32 → fixed p ≡ true → fixed q ≡ true →
    bound zone p q ≡ Some (number p -ℤ number q)

-- these names and x
abbrev pub with_name : ℕ → (ℕ → Bool) → ℕ → Bool
with_name x fixed p = (p == x) || fixed p
