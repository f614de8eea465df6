-- What is known of landmarks where they count, and that nothing is where they don't.
use Rattle.std.proofs.Common.{◌≡◌, ℕ, Bool, true, false, List, Option, None, Some, Result, Ok, Err, IfOk, refl, sym, ap, ◌∙◌}
use Rattle.ed_syntax.specs.Commands.{Script}
use Rattle.ed_rules.specs.declared.state.State.{State}
use Rattle.landmarks.specs.ChainValues.{ChainValue}
use Rattle.cert_check.specs.checker.Beginning.{landmarks_of, has_letters, letters_of_chains, with_landmarks, began}
use Rattle.analyser.specs.declared.analysis.Start.{Start}
use Rattle.analyser.specs.Following.{do_count, version_by, chains_by, knowing}

abbrev knows : Script → (has : Option (List (List ℕ))) → (counts : Bool) → (landmarks : Option (List ChainValue)) → State → State
knows script has counts landmarks s =
    began (version_by counts has) (letters_of_chains script (landmarks_of (chains_by counts landmarks)))
    (landmarks_of (chains_by counts landmarks)) s

knows-nothing : (script : Script) (has : Option (List (List ℕ))) (landmarks : Option (List ChainValue)) (s : State) →
    knows script has false landmarks s ≡ s
knows-nothing script None landmarks s = refl
knows-nothing script (Some has) landmarks s = refl

knowing-nothing : (script : Script) (start : Start) (counts : Bool) (s t : State) → counts ≡ do_count script start.landmarks →
    counts ≡ false → t ≡ s → t ≡ knowing script start s
unfolding knowing
knowing-nothing script start counts s t is none same =
    same ∙ sym (knows-nothing script start.has start.landmarks s)
    ∙ ap (λ (b : Bool). knows script start.has b start.landmarks s) (sym none ∙ is)

knowing-chains : (script : Script) (start : Start) (chains : List ChainValue) (counts : Bool) (s t : State) →
    counts ≡ do_count script start.landmarks → start.landmarks ≡ Some chains → counts ≡ true →
    t ≡ with_landmarks (letters_of_chains script (landmarks_of chains)) (landmarks_of chains) s → t ≡ knowing script start s
unfolding knowing
knowing-chains script start chains counts s t is given some new =
    new ∙ ap (λ (landmarks : Option (List ChainValue)). knows script start.has true landmarks s) (sym given)
    ∙ ap (λ (b : Bool). knows script start.has b start.landmarks s) (sym some ∙ is)

-- by the answer of a call that makes a state know of them
pub known-by : {E : Type 0} (script : Script) (start : Start) (chains : List ChainValue) (slice : List ChainValue) (answer : Result Bool E)
    (s t : State) → start.landmarks ≡ Some chains → slice ≡ chains →
    IfOk answer (λ known. known ≡ has_letters script (landmarks_of slice)) →
    IfOk answer (λ known. known ≡ true → t ≡ with_landmarks (letters_of_chains script (landmarks_of slice)) (landmarks_of slice) s) →
    IfOk answer (λ known. known ≡ false → t ≡ s) →
    IfOk answer (λ counts. (counts ≡ do_count script start.landmarks) × (t ≡ knowing script start s))
unfolding do_count
known-by script start chains slice (Ok true) s t given items value knows same =
    let is : true ≡ do_count script start.landmarks =
    value ∙ ap (λ (cs : List ChainValue). has_letters script (landmarks_of cs)) items ∙ ap (do_count script) (sym given) in (
      is,
      knowing-chains script start chains true s t is given refl
          (knows refl ∙ ap (λ (cs : List ChainValue). with_landmarks (letters_of_chains script (landmarks_of cs)) (landmarks_of cs) s) items),
    )
known-by script start chains slice (Ok false) s t given items value knows same =
    let is : false ≡ do_count script start.landmarks =
    value ∙ ap (λ (cs : List ChainValue). has_letters script (landmarks_of cs)) items ∙ ap (do_count script) (sym given) in
    (is, knowing-nothing script start false s t is refl (same refl))
known-by script start chains slice (Err e) s t given items value knows same = tt

-- where none are given
none-count : (script : Script) → false ≡ do_count script None
unfolding do_count
none-count script = refl

pub known-none : (script : Script) (start : Start) (s : State) → start.landmarks ≡ None →
    (false ≡ do_count script start.landmarks) × (s ≡ knowing script start s)
known-none script start s none =
    let is : false ≡ do_count script start.landmarks = none-count script ∙ ap (do_count script) (sym none) in
    (is, knowing-nothing script start false s s is refl refl)
