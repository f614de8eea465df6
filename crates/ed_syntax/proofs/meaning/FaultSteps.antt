-- What steps may give, and the faults that they may meet.
use Rattle.std.proofs.Common.{◌≡◌, Option, Some, None, Result, Ok, Err, refl, subst}
use Rattle.std.specs.Prelude.{ok_or}
use Rattle.ed_base.specs.declared.fault.Fault.{Fault}
use Rattle.ed_syntax.specs.meaning.Values.{◌>>◌}

-- all that it may give is so
abbrev pub Gives : {A : Type 0} → (A → Type 0) → Result A Fault → Type 0
Gives {A} P r = (x : A) → r ≡ Ok x → P x

-- all faults that it may meet are so
abbrev pub Meets : {A : Type 0} → (Fault → Type 0) → Result A Fault → Type 0
Meets P r = (f : Fault) → r ≡ Err f → P f

pub gives : {A : Type 0} (P : A → Type 0) (x : A) → P x → Gives P (Ok x)
gives {A} P x is y same = let e : x ≡ y = cc in subst P e is

pub gives-none : {A : Type 0} (P : A → Type 0) (f : Fault) → Gives P (Err f)
gives-none P f y same = cc

pub meets : {A : Type 0} (P : Fault → Type 0) (f : Fault) → P f → Meets {A = A} P (Err f)
meets P f is g same = let e : f ≡ g = cc in subst P e is

pub meets-none : {A : Type 0} (P : Fault → Type 0) (x : A) → Meets P (Ok x)
meets-none P x g same = cc

-- one step after another
pub bind-gives : {A B : Type 0} (Q : A → Type 0) (P : B → Type 0) (r : Result A Fault) (f : A → Result B Fault) → Gives Q r → ((x : A) → Q x → Gives P (f x)) → Gives P (r >> f)
bind-gives Q P (Ok x) f first later = later x (first x refl)
bind-gives Q P (Err e) f first later = gives-none P e

pub bind-any : {A B : Type 0} (P : B → Type 0) (r : Result A Fault) (f : A → Result B Fault) → ((x : A) → Gives P (f x)) → Gives P (r >> f)
bind-any P (Ok x) f later = later x
bind-any P (Err e) f later = gives-none P e

pub bind-meets : {A B : Type 0} (P : Fault → Type 0) (r : Result A Fault) (f : A → Result B Fault) → Meets P r → ((x : A) → Meets P (f x)) → Meets P (r >> f)
bind-meets P (Ok x) f first later = later x
bind-meets P (Err e) f first later = meets P e (first e refl)

pub ok_or-meets : {A : Type 0} (P : Fault → Type 0) (o : Option A) (f : Fault) → P f → Meets P (ok_or o f)
ok_or-meets P (Some x) f is = meets-none P x
ok_or-meets P None f is = meets P f is
