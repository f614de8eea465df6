-- Accepted steps run to their end, from each state that what comes in stands for.
use Rattle.std.proofs.Common.{◌≡◌, ℕ, ◌+◌, Bool, true, false, not, ◌||◌, List, [], ◌∷◌, length, Option, None, Some, refl, ◌∙◌, sym, ap, subst}
use Rattle.std.specs.Prelude.{◌==◌}
use Rattle.std.specs.List.{list_all}
use Rattle.std.proofs.lemmas.Bool.{and_parts, not-true}
use Rattle.ed_syntax.specs.Commands as ed
use Rattle.ed_syntax.specs.Commands.{Verb, Step}
use Rattle.ed_syntax.specs.meaning.States as editor
use Rattle.ed_syntax.specs.meaning.Verbs as verbs
use Rattle.ed_syntax.specs.meaning.Progress.{Progress}
use Rattle.ed_syntax.specs.meaning.Runs.{Further, step_by, step, at_end, steps}
use Rattle.ed_syntax.specs.meaning.Verbs.{is_global, ends_run}
use Rattle.ed_rules.specs.declared.state.State.{State}
use Rattle.ed_rules.specs.StandsFor.{StandsFor}
use Rattle.cert_check.specs.checker.Covering.{covers}
use Rattle.cert_check.specs.declared.checker.verdict.Verdict.TheVariants.{Accepted}
use Rattle.cert_check.specs.declared.sight.Sight.{Sight}
use Rattle.cert_check.specs.Certificates.{Looped, Note, Certificate}
use Rattle.cert_check.specs.checker.Valid.{Check, verdict_of, has_quit, counted, are_met, left_by, are_listed, end_checks, left_after, step_checks, checks_from, fits_list, fits, are_shaped}
use Rattle.cert_check.specs.checker.Sound.{RunsWell, IsUnflagged, GoesWell}
use Rattle.cert_check.proofs.verdicts.Checks.{first-holds, EndsSo, end-holds}
use Rattle.cert_check.proofs.verdicts.Flags.{kept-unflagged}
use Rattle.cert_check.proofs.verdicts.Running.{RunLaws, covers-stands, prompted-well, at_end-well, one-well, going-on, ended-well}
use Rattle.cert_check.proofs.verdicts.Turning.{global-holds, later-holds, inner-sized}

-- the counted commands after one
abbrev later_counted : (ends : Bool) → List Step → List Step
later_counted ends xs = elim ends as (λ _. List Step) [ true ↦ [] | false ↦ counted xs ]

-- `g` and `v` don't end a run
global-goes-on : (v : Verb) → is_global v ≡ true → ends_run v ≡ false
global-goes-on (ed.Global sense pattern) g = refl
global-goes-on _ g = absurd cc

module _ (k : RunLaws) (w : Sight) (c : Certificate) (bad : Option ℕ) (quit : Bool) (x : Step) (xs : List Step) (number : ℕ) (s coming : State) (notes : List Note) (go : Further) where
  abbrev v : Verb
  v = x.command.verb

  -- the checks after this step, of which a state comes in
  abbrev later : State → List Check
  later t = checks_from w c.writes (end_checks quit bad c) (number + 1) t (later_counted (ends_run v) xs) notes

  -- what is left after the step runs well, where its counted commands and the end are accepted
  abbrev RestWell : Type 0
  RestWell =
      (t : State) → quit ≡ has_quit xs → are_shaped (counted xs) notes ≡ true → verdict_of (checks_from w c.writes (end_checks quit bad c) (number + 1) t (counted xs) notes) ≡ Accepted → GoesWell c w t go

  -- the checks of the step and those after it hold
  abbrev Holds : Option Looped → Type 0
  Holds looped = verdict_of (step_checks w number c.writes x (record { state = s; looped = looped }) coming (later (left_after w looped x s))) ≡ Accepted

  module _ (q : quit ≡ ends_run v || has_quit xs) (shape : are_shaped (later_counted (ends_run v) xs) notes ≡ true) (rest : RestWell) where
    -- a step without a list
    plain-well : not (is_global v) ≡ true → Holds None → GoesWell c w coming (λ m. step x m go)
    plain-well single h m st none answers =
        let covered = first-holds (covers s coming) _ _ h in
        let met = first-holds (are_met x.command s) _ _ covered.1 in
        let paths = first-holds (are_listed c.writes x.command s) _ _ met.1 in
        let stands_before : StandsFor s m.state = covers-stands k.single s coming m.state covered.0 st in
        (elim (ends_run v) as (λ b. ends_run v ≡ b → quit ≡ b || has_quit xs → are_shaped (later_counted b xs) notes ≡ true →
        verdict_of (checks_from w c.writes (end_checks quit bad c) (number + 1) (left_by w x.command s) (later_counted b xs) notes) ≡ Accepted → RunsWell c (step_by v x m go answers)) [
          | true ↦ λ e r l a. ended-well k w quit bad c x s m go answers v refl e met.0 stands_before (end-holds quit bad c (number + 1) (left_by w x.command s) a)
          | false ↦ λ e r l a.
              subst (λ (p : Progress). RunsWell c p) (sym (going-on v x m go answers e single))
              (one-well k.single w c x.command s m go answers met.0 paths.0 stands_before (λ t more leads stands.
              rest (left_by w x.command s) r l a t stands
              (subst (λ (u : editor.State). IsUnflagged w.version u) leads.3 (kept-unflagged k.no_flags w.version x.command m.state leads.0 leads.1 leads.2 (not-true (is_global v) single) none)) more))
        ]) refl q shape paths.1

    -- a global command
    looped-well : (l : Looped) → verbs.is_step x ≡ true → fits_list (is_global v) x.list (Some l) ≡ true → Holds (Some l) → GoesWell c w coming (λ m. step x m go)
    looped-well l stands fit h =
        let g = (and_parts (is_global v) (length l.inner == length x.list) fit).0 in
        let t : State = left_after w (Some l) x s in
        let e : ends_run v ≡ false = global-goes-on v g in
        let after = later-holds w c number x s l coming (later t) (inner-sized (is_global v) x.list l fit) (global-holds w c number x s l coming (later t) h) in
        let accepted = subst (λ (b : Bool). verdict_of (checks_from w c.writes (end_checks quit bad c) (number + 1) t (later_counted b xs) notes) ≡ Accepted) e after in
        k.global w c number x (record { state = s; looped = Some l }) coming (later t) go stands g fit h
        (rest t (q ∙ ap (λ b. b || has_quit xs) e) (subst (λ (b : Bool). are_shaped (later_counted b xs) notes ≡ true) e shape) accepted)

    step-well : (looped : Option Looped) → verbs.is_step x ≡ true → fits_list (is_global v) x.list looped ≡ true → Holds looped → GoesWell c w coming (λ m. step x m go)
    step-well None stands fit h = plain-well fit h
    step-well (Some l) stands fit h = looped-well l stands fit h

-- the steps that are left, of which the counted ones and the end are accepted
pub steps-well : RunLaws → (w : Sight) (c : Certificate) (bad : Option ℕ) (quit : Bool) (xs : List Step) (number : ℕ) (s : State) (notes : List Note) → quit ≡ has_quit xs → list_all verbs.is_step xs ≡ true →
    are_shaped (counted xs) notes ≡ true → verdict_of (checks_from w c.writes (end_checks quit bad c) number s (counted xs) notes) ≡ Accepted → GoesWell c w s (steps xs bad)
steps-well k w c bad quit [] number s notes q stands shape h m st none answers =
    prompted-well c m (at_end bad m)
    (at_end-well k bad c s m (subst (λ (b : Bool). EndsSo b bad c s) q (end-holds quit bad c number s h)) st)
steps-well k w c bad quit (x ∷ xs) number s [] q stands shape h m st none answers = absurd cc
steps-well k w c bad quit (x ∷ xs) number s (n ∷ notes) q stands shape h m st none answers =
    let v : Verb = x.command.verb in
    let go : Further = λ t more. steps xs bad t more in
    let others = (and_parts (verbs.is_step x) (list_all verbs.is_step xs) stands).1 in
    prompted-well c m (step x m go answers)
    (step-well k w c bad quit x xs number n.state s notes go q
    (and_parts (fits x n) (are_shaped (later_counted (ends_run v) xs) notes) shape).1
    (λ t r l a u known clean more. steps-well k w c bad quit xs (number + 1) t notes r others l a u known clean more)
    n.looped (and_parts (verbs.is_step x) (list_all verbs.is_step xs) stands).0
    (and_parts (fits x n) (are_shaped (later_counted (ends_run v) xs) notes) shape).0 h m st none answers)
