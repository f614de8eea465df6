-- Steps one after another: what holds of what they give.
use Rattle.std.proofs.Common.{◌≡◌, Result, Ok, Err, IfOk, refl}
use Rattle.ed_base.specs.declared.fault.Fault.{Fault}
use Rattle.ed_syntax.specs.meaning.Values.{◌>>◌}

-- what holds of the first step's value, and where that holds of the second's, holds in the end
pub IfOk-bind : {A B : Type 0} (Q : A → Type 0) (P : B → Type 0) (r : Result A Fault) (f : A → Result B Fault) →
    IfOk r Q → ((x : A) → Q x → IfOk (f x) P) → IfOk (r >> f) P
IfOk-bind Q P (Ok x) f first later = later x first
IfOk-bind Q P (Err e) f first later = tt

-- of a step's value it is known that the step gives it
pub IfOk-itself : {A : Type 0} (r : Result A Fault) → IfOk r (λ x. r ≡ Ok x)
IfOk-itself (Ok x) = refl
IfOk-itself (Err e) = tt

-- the same, whatever the first step gives
pub IfOk-after : {A B : Type 0} (P : B → Type 0) (r : Result A Fault) (f : A → Result B Fault) → ((x : A) → IfOk (f x) P) → IfOk (r >> f) P
IfOk-after P (Ok x) f later = later x
IfOk-after P (Err e) f later = tt
