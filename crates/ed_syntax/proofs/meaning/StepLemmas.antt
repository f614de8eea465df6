-- Steps that give something, and choices by a test.
use Rattle.std.proofs.Common.{◌≡◌, Bool, true, false, Option, Some, None, refl}
use Rattle.ed_syntax.specs.reading.Tokens.{◌>>=◌}
pub use Rattle.std.proofs.lemmas.Option.{same_Some as Some-same}

-- nothing is not something
pub none_some : {A : Type 0} {x : A} → None ≡ Some x → ⊥
none_some same = cc

-- what a step gave, and the step after it
pub bind-some : {A B : Type 0} (o : Option A) (f : A → Option B) (y : B) → (o >>= f) ≡ Some y → (x : A) × (o ≡ Some x) × (f x ≡ Some y)
bind-some None f y is = cc
bind-some (Some x) f y is = (x, refl, is)

-- one of two, by a test
abbrev pub chosen : {X : Type 0} → Bool → X → X → X
chosen test one other = elim test [ true ↦ one | false ↦ other ]

-- what holds of both holds of the one that is chosen
pub either : {X : Type 0} (P : X → Type 0) (test : Bool) (one other : X) → (test ≡ true → P one) → (test ≡ false → P other) → P (chosen test one other)
either P true one other at_true at_false = at_true refl
either P false one other at_true at_false = at_false refl
