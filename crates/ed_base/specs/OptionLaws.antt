-- Members of sets that may be none.
use Rattle.std.proofs.Common.{◌≡◌, Option, None, Some, refl, ap}
use Rattle.std.specs.Option.{option_cmp}
use Rattle.std.specs.declared.cmp.Ordering.{Ordering}
use Rattle.std.specs.declared.cmp.Ordering.TheVariants.{Equal}

pub exact-options : {A : Type 0} {cmp : A → A → Ordering} → ((a b : A) → cmp a b ≡ Equal → a ≡ b) →
    (a b : Option A) → option_cmp cmp a b ≡ Equal → a ≡ b
exact-options exact None None e = refl
exact-options exact None (Some b) e = absurd cc
exact-options exact (Some a) None e = absurd cc
exact-options exact (Some a) (Some b) e = ap (λ x. Some x) (exact a b e)
