-- What holds after a need, whatever a step gives, and of each of the texts that are given.
use Rattle.std.proofs.Common.{◌≡◌, ◌++◌, ℕ, Bool, true, false, List, [], ◌∷◌, Option, None, Some, Result, Ok, Err, IfOk}
use Rattle.std.proofs.Common.{refl}
use Rattle.std.specs.Prelude.{All, IfSome}
use Rattle.std.proofs.lemmas.List.Elements.{All-nil, All-cons, All-head, All-tail}
use Rattle.ed_base.specs.declared.fault.Fault.{Fault}
use Rattle.ed_syntax.specs.meaning.Values.{◌>>◌}
use Rattle.ed_rules.specs.Pieces.{needing}

pub IfOk-needing : {A : Type 0} (P : A → Type 0) (b : Bool) (f : Fault) (a : A) → (b ≡ true → P a) → IfOk (needing b f a) P
IfOk-needing P true f a h = h refl
IfOk-needing P false f a h = tt

pub IfOk-need_then : {A B : Type 0} (P : B → Type 0) (b : Bool) (f : Fault) (a : A) (k : A → Result B Fault) →
    (b ≡ true → IfOk (k a) P) → IfOk (needing b f a >> k) P
IfOk-need_then P true f a k h = h refl
IfOk-need_then P false f a k h = tt

-- a need says nothing of what it lets through
pub needed : {A : Type 0} (P : A → Type 0) (b : Bool) (f : Fault) (a : A) → P a → IfOk (needing b f a) P
needed P b f a h = IfOk-needing P b f a (λ _. h)

pub anyway : {A : Type 0} (P : A → Type 0) (x : Result A Fault) → ((a : A) → P a) → IfOk x P
anyway P (Ok a) h = h a
anyway P (Err f) h = tt

-- of texts of which nothing is asked
abbrev pub Any : List ℕ → Type 0
Any text = Unit {0}

pub all-any : (texts : List (List ℕ)) → All Any texts
all-any [] = All-nil Any
all-any (text ∷ texts) = All-cons Any text texts tt (all-any texts)

pub some-any : (text : Option (List ℕ)) → IfSome text Any
some-any None = tt
some-any (Some text) = tt

pub all-parts : {A : Type 0} (P : A → Type 0) (xs ys : List A) → All P (xs ++ ys) → All P xs × All P ys
all-parts P [] ys h = (All-nil P, h)
all-parts P (x ∷ xs) ys h =
    let later = all-parts P xs ys (All-tail P x (xs ++ ys) h) in (All-cons P x xs (All-head P x (xs ++ ys) h) later.0, later.1)
