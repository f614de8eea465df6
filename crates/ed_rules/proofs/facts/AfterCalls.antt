-- What calls answer of the facts after a command is that of the definitions.
use Rattle.std.proofs.Common.{◌≡◌, ℕ, Bool, List, [], ◌∷◌, Result, IfOk, refl, sym, subst}
use Rattle.ed_rules.specs.declared.state.Old.{Old}
use Rattle.ed_rules.specs.Matched.{gained}
use Rattle.ed_rules.specs.FactsAfter.{facts_edited, facts_appended, facts_put_before, facts_changed}
use Rattle.ed_rules.specs.facts.Facts.{Facts}
use Rattle.ed_rules.specs.facts.EditedFacts.{deletion, changing, appending, inserting}

-- an answer is that of another definition which gives the same
pub told-as : {E : Type 0} (answer : Result Facts E) (one other : Facts) → one ≡ other → IfOk answer (λ f. f ≡ one) → IfOk answer (λ f. f ≡ other)
told-as answer one other same told = subst (λ (facts : Facts). IfOk answer (λ f. f ≡ facts)) same told

-- BY WHETHER A LINE IS ENTERED

pub appended-some : (watched text : List (List ℕ)) (b : Old) (after : List Bool) → (text ≡ [] → ⊥) → facts_edited (gained watched text) (appending text) b after ≡ facts_appended watched text b after
appended-some watched [] b after some = absurd (some refl)
appended-some watched (line ∷ more) b after some = refl

pub put_before-some : (watched text : List (List ℕ)) (b : Old) (after : List Bool) → (text ≡ [] → ⊥) → facts_edited (gained watched text) (inserting text) b after ≡ facts_put_before watched text b after
put_before-some watched [] b after some = absurd (some refl)
put_before-some watched (line ∷ more) b after some = refl

pub changed-some : (watched text : List (List ℕ)) (b : Old) (after : List Bool) → (text ≡ [] → ⊥) → facts_edited (gained watched text) (changing text) b after ≡ facts_changed watched text b after
changed-some watched [] b after some = absurd (some refl)
changed-some watched (line ∷ more) b after some = refl

pub changed-none : (watched text : List (List ℕ)) (b : Old) (after : List Bool) → text ≡ [] → facts_edited [] deletion b after ≡ facts_changed watched text b after
changed-none watched text b after none = subst (λ (lines : List (List ℕ)). facts_edited [] deletion b after ≡ facts_changed watched lines b after) (sym none) refl
