-- Hints that stay among those that were found.
use Rattle.std.proofs.Common.{◌≡◌, List, [], ◌∷◌, ◌++◌, Option, Some, None, sym, ◌∙◌, subst, arith, length-append}
use Rattle.std.specs.Prelude.{MatchOption}
use Rattle.std.specs.List.{Any}
use Rattle.std.proofs.Math.ListN.{get_or-append}
use Rattle.std.proofs.lemmas.List.Quantifiers.{Any-push}

-- a list with maybe one more
abbrev pub IsPushed : {X : Type 0} → List X → Option X → List X → Type 0
IsPushed xs o ys = MatchOption o (ys ≡ xs) (λ x. ys ≡ xs ++ x ∷ [])

any-front : {X : Type 0} (P : X → Type 0) (xs : List X) (y : X) → Any P xs → Any P (xs ++ y ∷ [])
any-front P xs y any = (any.0, any.1, simp length-append (omega arith), get_or-append xs (y ∷ []) any.1 any.0 any.2 ∙ any.3, any.4)

-- what is among them stays there
pub any-kept : {X : Type 0} (P : X → Type 0) (xs ys : List X) (o : Option X) → IsPushed xs o ys → Any P xs → Any P ys
any-kept P xs ys None same any = subst (Any P) (sym same) any
any-kept P xs ys (Some x) pushed any = subst (Any P) (sym pushed) (any-front P xs x any)

-- one that there is under a premise is among them under it
pub any-pushed : {X : Type 0} (P : X → Type 0) (M : Type 0) (xs ys : List X) (o : Option X) → MatchOption o (M → ⊥) P → IsPushed xs o ys → M → Any P ys
any-pushed P M xs ys None not same m = absurd (not m)
any-pushed P M xs ys (Some x) is pushed m = subst (Any P) (sym pushed) (Any-push P xs x is)
