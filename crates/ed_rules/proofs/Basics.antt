-- Two results side by side: where the rule's is a value, so is the editor's, and the two are related.
use Rattle.std.proofs.Common.{◌≡◌, ℤ, ◌-ℤ◌, Bool, true, false, Option, None, Some, Result, Ok, Err, refl, sym, subst, arith}
use Rattle.std.specs.Prelude.{IfSome, option_map}
use Rattle.std.proofs.lemmas.Int.{ints}
use Rattle.ed_base.specs.declared.fault.Fault.{Fault}
use Rattle.zones.specs.Bound.{Obeys, sum_of, negative_of}
use Rattle.ed_syntax.specs.meaning.Values.{◌>>◌}
use Rattle.ed_rules.specs.Pieces.{needing}

-- where the first gives a value, so does the second, and the two are related
abbrev pub Agrees : {A B : Type 0} → (A → B → Type 0) → Result A Fault → Result B Fault → Type 0
Agrees R (Err f) other = Unit {0}
Agrees R (Ok a) (Ok b) = R a b
Agrees R (Ok a) (Err f) = ⊥

-- what is said of a value that is made of another one, where there is one
pub IfSome-mapped : {A B : Type 0} (f : A → B) (P : B → Type 0) (o : Option A) → ((a : A) → o ≡ Some a → P (f a)) → IfSome (option_map f o) P
IfSome-mapped f P None h = tt
IfSome-mapped f P (Some a) h = h a refl

-- a difference less a number obeys the bound lowered by it
pub Obeys-lowered : (d c e : ℤ) (b : Option ℤ) → Obeys d b → e ≡ d -ℤ c → Obeys e (negative_of (sum_of (negative_of b) (Some c)))
Obeys-lowered d c e None h q = tt
Obeys-lowered d c e (Some m) h q = omega (arith, ints)

pub Agrees-bind : {A B C D : Type 0} (R : A → B → Type 0) (S : C → D → Type 0) (x : Result A Fault) (y : Result B Fault) (f : A → Result C Fault) (g : B → Result D Fault) →
    Agrees R x y → ((a : A) (b : B) → R a b → Agrees S (f a) (g b)) → Agrees S (x >> f) (y >> g)
Agrees-bind R S (Err e) y f g h k = tt
Agrees-bind R S (Ok a) (Ok b) f g h k = k a b h
Agrees-bind R S (Ok a) (Err e) f g h k = absurd h

pub Agrees-needing : {A B : Type 0} (R : A → B → Type 0) (b : Bool) (f : Fault) (a : A) (y : Result B Fault) →
    (b ≡ true → Agrees R (Ok a) y) → Agrees R (needing b f a) y
Agrees-needing R true f a y h = h refl
Agrees-needing R false f a y h = tt

pub Agrees-map : {A B D : Type 0} (R : A → B → Type 0) (S : A → D → Type 0) (x : Result A Fault) (y : Result B Fault) (g : B → D) →
    Agrees R x y → ((a : A) (b : B) → R a b → S a (g b)) → Agrees S x (y >> λ b. Ok (g b))
Agrees-map R S (Err e) y g h k = tt
Agrees-map R S (Ok a) (Ok b) g h k = k a b h
Agrees-map R S (Ok a) (Err e) g h k = absurd h

pub Agrees-ok : {A B : Type 0} (R : A → B → Type 0) (a : A) (b : B) (y : Result B Fault) → y ≡ Ok b → R a b → Agrees R (Ok a) y
Agrees-ok {B = B} R a b y e r = subst (λ (z : Result B Fault). Agrees R (Ok a) z) (sym e) r

pub Agrees-need_then : {A B C : Type 0} (R : B → C → Type 0) (b : Bool) (f : Fault) (a : A) (k : A → Result B Fault) (y : Result C Fault) →
    (b ≡ true → Agrees R (k a) y) → Agrees R (needing b f a >> k) y
Agrees-need_then R true f a k y h = h refl
Agrees-need_then R false f a k y h = tt

-- a chain of steps may be read from either end
pub bind-twice : {A B C : Type 0} (x : Result A Fault) (f : A → Result B Fault) (g : B → Result C Fault) → (x >> f) >> g ≡ x >> λ a. f a >> g
bind-twice (Ok a) f g = refl
bind-twice (Err e) f g = refl

last-of-chain : {C D E : Type 0} (z : Result C Fault) (h : C → D) (k : D → Result E Fault) → (z >> λ c. Ok (h c)) >> k ≡ z >> λ c. k (h c)
last-of-chain (Ok c) h k = refl
last-of-chain (Err e) h k = refl

rest-of-chain : {B C D E : Type 0} (y : Result B Fault) (g : B → Result C Fault) (h : B → C → D) (k : D → Result E Fault) →
    (y >> λ b. g b >> λ c. Ok (h b c)) >> k ≡ y >> λ b. g b >> λ c. k (h b c)
rest-of-chain (Ok b) g h k = last-of-chain (g b) (h b) k
rest-of-chain (Err e) g h k = refl

pub chain : {A B C D E : Type 0} (x : Result A Fault) (f : A → Result B Fault) (g : A → B → Result C Fault) (h : A → B → C → D) (k : D → Result E Fault) →
    (x >> λ a. f a >> λ b. g a b >> λ c. Ok (h a b c)) >> k ≡ x >> λ a. f a >> λ b. g a b >> λ c. k (h a b c)
chain (Ok a) f g h k = rest-of-chain (f a) (g a) (h a) k
chain (Err e) f g h k = refl

-- what is known of the editor's value besides
pub Agrees-also : {A B : Type 0} (R : A → B → Type 0) (Q : B → Type 0) (x : Result A Fault) (y : Result B Fault) → Agrees R x y → ((b : B) → y ≡ Ok b → Q b) → Agrees (λ a b. R a b × Q b) x y
Agrees-also R Q (Err e) y h k = tt
Agrees-also R Q (Ok a) (Ok b) h k = (h, k b refl)
Agrees-also R Q (Ok a) (Err e) h k = absurd h

pub Agrees-weaker : {A B : Type 0} (R S : A → B → Type 0) (x : Result A Fault) (y : Result B Fault) → ((a : A) (b : B) → R a b → S a b) → Agrees R x y → Agrees S x y
Agrees-weaker R S (Err e) y k h = tt
Agrees-weaker R S (Ok a) (Ok b) k h = k a b h
Agrees-weaker R S (Ok a) (Err e) k h = absurd h
