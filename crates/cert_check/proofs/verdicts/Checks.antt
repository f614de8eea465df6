-- What an accepted row of checks says, one check after another.
use Rattle.std.proofs.Common.{◌≡◌, ℕ, Bool, true, false, not, ◌||◌, ◌∙◌, List, [], Option, None, Some, is_none, is_some, cond, Result, Ok, Err, refl, ap}
use Rattle.ed_base.specs.declared.fault.Fault.{Fault}
use Rattle.ed_syntax.specs.Commands.{Command}
use Rattle.ed_rules.specs.declared.state.State.{State}
use Rattle.cert_check.specs.checker.Covering.{covers}
use Rattle.ed_rules.specs.Rules.{step, fault_of}
use Rattle.cert_check.specs.declared.sight.Sight.{Sight}
use Rattle.ed_rules.specs.Reaching.{Comes}
use Rattle.cert_check.specs.declared.checker.verdict.Place.{Place}
use Rattle.cert_check.specs.declared.checker.verdict.Verdict.{Verdict}
use Rattle.cert_check.specs.declared.checker.verdict.Verdict.TheVariants.{Accepted, Refused}
use Rattle.cert_check.specs.Certificates.{Certificate}
use Rattle.cert_check.specs.checker.Valid.{verdict_of, told, are_met, left_by, knows_least, knows_most, end_checks}
use Rattle.cert_check.specs.checker.Passing.{Passes, left_where_met}

-- the first check holds, and those after it are accepted
pub first-holds : (b : Bool) (p : Place) (later : Verdict) → (elim b as (λ _. Verdict) [ true ↦ later | false ↦ Refused p ]) ≡ Accepted →
    (b ≡ true) × (later ≡ Accepted)
first-holds true p later h = (refl, h)
first-holds false p later h = absurd cc

-- what the checks of the end say
pub record EndsSo (quit : Bool) (fault : Option ℕ) (c : Certificate) (coming : State) : Type 0 where
  pub readable : quit || is_none fault ≡ true
  pub covered : covers c.last coming ≡ true
  pub saved : quit || not c.last.changed.yes ≡ true
  pub least : knows_least c.last.zone c.low ≡ true
  pub most : knows_most c.last.zone c.high ≡ true

pub end-holds : (quit : Bool) (fault : Option ℕ) (c : Certificate) (number : ℕ) (coming : State) →
    verdict_of (end_checks quit fault c number coming) ≡ Accepted → EndsSo quit fault c coming
end-holds quit fault c number coming h =
    let readable = first-holds (quit || is_none fault) _ _ h in
    let covered = first-holds (covers c.last coming) _ _ readable.1 in
    let saved = first-holds (quit || not c.last.changed.yes) _ _ covered.1 in
    let least = first-holds (knows_least c.last.zone c.low) _ _ saved.1 in
    let most = first-holds (knows_most c.last.zone c.high) _ _ least.1 in
    record { readable = readable.0; covered = covered.0; saved = saved.0; least = least.0; most = most.0 }

value-by : (r : Result State Fault) (s : State) → is_none (fault_of r) ≡ true → r ≡ Ok (elim r as (λ _. State) [ Ok t ↦ t | Err f ↦ s ])
value-by (Ok t) s h = refl
value-by (Err f) s h = absurd cc

-- the needs of a command are the same whatever is watched
abbrev pub NeedsAreTheSame : Type 0
NeedsAreTheSame = (one other : List (List ℕ)) (c : Command) (s : State) → fault_of (step one c s) ≡ fault_of (step other c s)

-- the rule's own result
abbrev pub plainly_left : Sight → Command → State → State
plainly_left w c s = elim (step w.watch c s) as (λ _. State) [ Ok t ↦ t | Err f ↦ s ]

-- where the needs hold, the rule gives it
pub met-gives : NeedsAreTheSame → (w : Sight) (c : Command) (s : State) → are_met c s ≡ true → step w.watch c s ≡ Ok (plainly_left w c s)
unfolding are_met
met-gives same w c s h = value-by (step w.watch c s) s (ap is_none (same w.watch [] c s) ∙ h)

met-by : (w : Sight) (r : Result State Fault) (s t : State) (b : Bool) → b ≡ is_none (fault_of r) → r ≡ Ok t → cond b (Some (told w (elim r as (λ _. State) [ Ok u ↦ u | Err f ↦ s ]))) None ≡ Some (told w t)
met-by w (Ok u) s t b is e = cc
met-by w (Err f) s t b is e = absurd cc

unmet-by : (w : Sight) (r : Result State Fault) (s : State) (b : Bool) → b ≡ is_none (fault_of r) → is_some (fault_of r) ≡ true → cond b (Some (told w (elim r as (λ _. State) [ Ok u ↦ u | Err f ↦ s ]))) None ≡ None
unmet-by w (Ok u) s b is e = absurd cc
unmet-by w (Err f) s b is e = cc

-- the rule's state is left where there is one
met-left : NeedsAreTheSame → (w : Sight) (c : Command) (s t : State) → step w.watch c s ≡ Ok t → left_where_met w c s ≡ Some (told w t)
unfolding are_met left_by
met-left same w c s t e = met-by w (step w.watch c s) s t (is_none (fault_of (step [] c s))) (ap is_none (same [] w.watch c s)) e

unmet-none : NeedsAreTheSame → (w : Sight) (c : Command) (s : State) (f : Fault) → step w.watch c s ≡ Err f → left_where_met w c s ≡ None
unfolding are_met left_by
unmet-none same w c s f e = unmet-by w (step w.watch c s) s (is_none (fault_of (step [] c s))) (ap is_none (same [] w.watch c s)) (ap (λ (r : Result State Fault). is_some (fault_of r)) e)

-- what a command comes to is left where its needs hold
pub comes-left : NeedsAreTheSame → (w : Sight) (c : Command) (s t : State) (failed : Option Fault) → Comes failed t (step w.watch c s) → Passes (is_none failed) (told w t) (left_where_met w c s)
comes-left same w c s t None h = met-left same w c s t h
comes-left same w c s t (Some f) h = unmet-none same w c s f h
