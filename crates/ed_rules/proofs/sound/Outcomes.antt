-- What is said of what a command makes, and what its addresses leave as it is.
use Rattle.std.proofs.Common.{◌≡◌, ℕ, List, Option, Result, Ok, Err, IfOk, ap}
use Rattle.std.proofs.lemmas.Result.{IfOk-weaker}
use Rattle.ed_base.specs.declared.fault.Fault.{Fault}
use Rattle.ed_syntax.specs.Commands.{Address, Addresses}
use Rattle.ed_syntax.specs.meaning.States as editor
use Rattle.ed_syntax.specs.meaning.Effects.{Outcome, Effect, Makes, Asks}
use Rattle.ed_syntax.specs.meaning.Values.{◌>>◌, values}
use Rattle.ed_syntax.specs.meaning.Applied.{targeted}
use Rattle.ed_syntax.specs.meaning.CommandLaws.{KeepsTheRest}
use Rattle.ed_syntax.proofs.meaning.PlaceLemmas.{addresses_keep_the_rest, targets_keep_the_rest}

-- of any value nothing is known
pub always : {A : Type 0} (x : Result A Fault) → IfOk x (λ _. Unit {0})
always (Ok a) = tt
always (Err e) = tt

-- what is said of what a command makes, if it makes something
abbrev pub OnMade : (Outcome → Type 0) → Result Effect Fault → Type 0
OnMade P (Ok (Makes o)) = P o
OnMade P (Ok (Asks r)) = Unit {0}
OnMade P (Err f) = Unit {0}

pub OnMade-bind : {A : Type 0} (Q : A → Type 0) (P : Outcome → Type 0) (x : Result A Fault) (f : A → Result Effect Fault) → IfOk x Q → ((a : A) → Q a → OnMade P (f a)) →
    OnMade P (x >> f)
OnMade-bind Q P (Ok a) f q h = h a q
OnMade-bind Q P (Err e) f q h = tt

-- addresses change the current line and the pattern alone
abbrev pub SameBuffer : editor.State → editor.State → Type 0
SameBuffer e t = (t.lines ≡ e.lines) × (t.past ≡ e.past) × (t.name ≡ e.name) × (t.global ≡ e.global)

rest-same : (e t : editor.State) → KeepsTheRest e t → SameBuffer e t
rest-same e t rest = (
  ap (λ (s : editor.State). s.lines) rest,
  ap (λ (s : editor.State). s.past) rest,
  ap (λ (s : editor.State). s.name) rest,
  ap (λ (s : editor.State). s.global) rest,
)

pub values-same : (a : Addresses) (e : editor.State) → IfOk (values a e) (λ (v : editor.State × List ℕ). SameBuffer e v.0)
values-same a e =
    IfOk-weaker (values a e) (λ (v : editor.State × List ℕ). KeepsTheRest e v.0) (λ (v : editor.State × List ℕ). SameBuffer e v.0) (λ v rest. rest-same e v.0 rest)
    (addresses_keep_the_rest a e)

pub targeted-same : (to : Option Address) (e : editor.State) → IfOk (targeted to e) (λ (v : editor.State × ℕ). SameBuffer e v.0)
targeted-same to e =
    IfOk-weaker (targeted to e) (λ (v : editor.State × ℕ). KeepsTheRest e v.0) (λ (v : editor.State × ℕ). SameBuffer e v.0) (λ v rest. rest-same e v.0 rest)
    (targets_keep_the_rest to e)
