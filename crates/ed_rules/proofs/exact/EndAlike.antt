-- A rule's result beside the editor's: both values, and related, or both the same fault.
use Rattle.std.proofs.Common.{◌≡◌, Bool, true, false, Result, Ok, Err, refl, subst, sym}
use Rattle.ed_base.specs.declared.fault.Fault.{Fault}
use Rattle.ed_syntax.specs.meaning.Values.{◌>>◌}
use Rattle.ed_rules.specs.Pieces.{needing}
use Rattle.ed_rules.specs.ExactRules.{EndAlike}

-- one step more on each side, where something is known of what the editor's comes to
pub EndAlike-under : {A B C D : Type 0} (P : Result D Fault → Type 0) (R : A → B → Type 0) (S : C → D → Type 0) (x : Result A Fault)
    (y : Result B Fault) (f : A → Result C Fault) (g : B → Result D Fault) →
    P (y >> g) → EndAlike R x y → ((a : A) (b : B) → R a b → P (g b) → EndAlike S (f a) (g b)) → EndAlike S (x >> f) (y >> g)
EndAlike-under P R S (Ok a) (Ok b) f g p h k = k a b h p
EndAlike-under P R S (Ok a) (Err e) f g p h k = absurd h
EndAlike-under P R S (Err e) (Ok b) f g p h k = absurd h
EndAlike-under P R S (Err e) (Err d) f g p h k = h

pub EndAlike-bind : {A B C D : Type 0} (R : A → B → Type 0) (S : C → D → Type 0) (x : Result A Fault) (y : Result B Fault)
    (f : A → Result C Fault) (g : B → Result D Fault) → EndAlike R x y → ((a : A) (b : B) → R a b → EndAlike S (f a) (g b)) →
    EndAlike S (x >> f) (y >> g)
EndAlike-bind {D = D} R S x y f g h k = EndAlike-under (λ (_ : Result D Fault). Unit {0}) R S x y f g tt h (λ a b r _. k a b r)

-- a step more on the editor's side, which meets no fault
pub EndAlike-map : {A B D : Type 0} (R : A → B → Type 0) (S : A → D → Type 0) (x : Result A Fault) (y : Result B Fault) (g : B → D) →
    EndAlike R x y → ((a : A) (b : B) → R a b → S a (g b)) → EndAlike S x (y >> λ b. Ok (g b))
EndAlike-map R S (Ok a) (Ok b) g h k = k a b h
EndAlike-map R S (Ok a) (Err e) g h k = absurd h
EndAlike-map R S (Err e) (Ok b) g h k = absurd h
EndAlike-map R S (Err e) (Err d) g h k = h

pub EndAlike-weaker : {A B : Type 0} (R S : A → B → Type 0) (x : Result A Fault) (y : Result B Fault) → ((a : A) (b : B) → R a b → S a b) →
    EndAlike R x y → EndAlike S x y
EndAlike-weaker R S (Ok a) (Ok b) k h = k a b h
EndAlike-weaker R S (Ok a) (Err e) k h = absurd h
EndAlike-weaker R S (Err e) (Ok b) k h = absurd h
EndAlike-weaker R S (Err e) (Err d) k h = h

pub EndAlike-ok : {A B : Type 0} (R : A → B → Type 0) (a : A) (b : B) (x : Result A Fault) (y : Result B Fault) →
    x ≡ Ok a → y ≡ Ok b → R a b → EndAlike R x y
EndAlike-ok {A = A} {B = B} R a b x y i j r =
    subst (λ (z : Result A Fault). EndAlike R z y) (sym i) (subst (λ (z : Result B Fault). EndAlike R (Ok a) z) (sym j) r)

pub EndAlike-fault : {A B : Type 0} (R : A → B → Type 0) (f : Fault) (x : Result A Fault) (y : Result B Fault) →
    x ≡ Err f → y ≡ Err f → EndAlike R x y
EndAlike-fault {A = A} {B = B} R f x y i j =
    subst (λ (z : Result A Fault). EndAlike R z y) (sym i) (subst (λ (z : Result B Fault). EndAlike R (Err f) z) (sym j) refl)

-- a need that holds, and one that fails

pub needing-met : {A : Type 0} (b : Bool) (f : Fault) (a : A) → b ≡ true → needing b f a ≡ Ok a
needing-met true f a e = refl
needing-met false f a e = cc

pub needing-failed : {A : Type 0} (b : Bool) (f : Fault) (a : A) → b ≡ false → needing b f a ≡ Err f
needing-failed false f a e = refl
needing-failed true f a e = cc

pub met-goes : {A B : Type 0} (b : Bool) (f : Fault) (a : A) (k : A → Result B Fault) → b ≡ true → needing b f a >> k ≡ k a
met-goes true f a k e = refl
met-goes false f a k e = cc

pub failed-stops : {A B : Type 0} (b : Bool) (f : Fault) (a : A) (k : A → Result B Fault) → b ≡ false → needing b f a >> k ≡ Err f
failed-stops false f a k e = refl
failed-stops true f a k e = cc
