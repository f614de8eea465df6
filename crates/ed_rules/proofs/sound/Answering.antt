-- A rule beside a command that may ask for a file: what the command makes, the state of the rule stands for.
use Rattle.std.proofs.Common.{◌≡◌, Bool, true, false, Option, Some, None, Result, Ok, Err, refl}
use Rattle.ed_base.specs.declared.fault.Fault.{Fault}
use Rattle.ed_base.specs.declared.fault.Fault.TheVariants as fault
use Rattle.ed_syntax.specs.declared.request.Answer.{Answer}
use Rattle.ed_syntax.specs.declared.request.Request.{Request}
use Rattle.ed_syntax.specs.Commands.{Command}
use Rattle.ed_syntax.specs.meaning.States as editor
use Rattle.ed_syntax.specs.meaning.States.{kept}
use Rattle.ed_syntax.specs.meaning.Effects.{Outcome, Effect, Makes, Asks}
use Rattle.ed_syntax.specs.meaning.Values.{◌>>◌}
use Rattle.ed_syntax.specs.meaning.Applied.{settled, completed}
use Rattle.ed_rules.specs.declared.state.State.{State}
use Rattle.ed_rules.specs.Pieces.{needing, with_zone, ended}
use Rattle.ed_rules.specs.Rules.{suffixed}
use Rattle.ed_rules.proofs.Basics.{Agrees}
use Rattle.ed_rules.proofs.sound.Standing.{Stands}
use Rattle.ed_rules.proofs.sound.Finishing.{Final, finish-sound}

-- a fault comes of an answer alone, and is that of a file
abbrev pub MayFail : Option Answer → Fault → Type 0
MayFail None f = ⊥
MayFail (Some a) f = f ≡ fault.File

-- where the rule gives a state, it is related to what the command makes
abbrev pub Does : (State → Outcome → Type 0) → Option Answer → Result State Fault → Result Effect Fault → Type 0
Does R given (Err f) y = Unit {0}
Does R given (Ok t) (Ok (Makes o)) = R t o
Does R given (Ok t) (Ok (Asks r)) = Unit {0}
Does R given (Ok t) (Err f) = MayFail given f

-- a state stands for what an effect leaves once it is settled, or for what a command leaves
abbrev pub Settles : (listed : Bool) → editor.State → State → Outcome → Type 0
Settles listed start t o = Stands t (settled listed (kept start) o)

abbrev pub Comes : State → Outcome → Type 0
Comes t o = Stands t o.state

-- a command that never asks
pub does-agreed : (given : Option Answer) (x : Result State Fault) (y : Result Effect Fault) → Agrees Final x y → Does Comes given x y
does-agreed given (Err f) y h = tt
does-agreed given (Ok t) (Ok (Makes o)) h = h
does-agreed given (Ok t) (Ok (Asks r)) h = absurd h
does-agreed given (Ok t) (Err f) h = absurd h

pub does-bind : {A B : Type 0} (R : A → B → Type 0) (S : State → Outcome → Type 0) (given : Option Answer) (x : Result A Fault) (y : Result B Fault) (f : A → Result State Fault) (g : B → Result Effect Fault) →
    Agrees R x y → ((a : A) (b : B) → R a b → Does S given (f a) (g b)) → Does S given (x >> f) (y >> g)
does-bind R S given (Err e) y f g h k = tt
does-bind R S given (Ok a) (Ok b) f g h k = k a b h
does-bind R S given (Ok a) (Err e) f g h k = absurd h

pub does-need_then : (S : State → Outcome → Type 0) (given : Option Answer) (b : Bool) (f : Fault) (t : State) (k : State → Result State Fault) (y : Result Effect Fault) →
    (b ≡ true → Does S given (k t) y) → Does S given (needing b f t >> k) y
does-need_then S given true f t k y h = h refl
does-need_then S given false f t k y h = tt

-- what asks, and what fails by a file, asks and fails whatever comes after
pub does-asks : (S : State → Outcome → Type 0) (given : Option Answer) (x : Result State Fault) (r : Request) → Does S given x (Ok (Asks r))
does-asks S given (Err f) r = tt
does-asks S given (Ok t) r = tt

pub does-fails : (S : State → Outcome → Type 0) (given : Option Answer) (x : Result State Fault) (f : Fault) → MayFail given f → Does S given x (Err f)
does-fails S given (Err e) f h = tt
does-fails S given (Ok t) f h = h

-- the end of a rule and the suffix
pub finish-does : (c : Command) (given : Option Answer) (start : editor.State) (x : Result State Fault) (y : Result Effect Fault) → Does (Settles c.listed start) given x y →
    Does Comes given (x >> λ r. suffixed c.suffix (with_zone (ended r.marks r.zone) r)) (y >> completed c start)
finish-does c given start (Err f) y h = tt
finish-does c given start (Ok r) (Ok (Makes o)) h =
    does-agreed given (suffixed c.suffix (with_zone (ended r.marks r.zone) r)) (completed c start (Makes o)) (finish-sound c start r (Makes o) h)
finish-does c given start (Ok r) (Ok (Asks q)) h = does-asks Comes given (suffixed c.suffix (with_zone (ended r.marks r.zone) r)) q
finish-does c given start (Ok r) (Err f) h = does-fails Comes given (suffixed c.suffix (with_zone (ended r.marks r.zone) r)) f h
