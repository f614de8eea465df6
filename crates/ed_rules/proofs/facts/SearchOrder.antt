-- Which line a search finds: the first that matches in its order.
use Rattle.std.proofs.Common.{◌≡◌, ◌<◌, ◌≤◌, ◌⊎◌, inl, inr, ℕ, zero, suc, ◌+◌, ◌-◌, max, Bool, true, false, cond, List, [], ◌∷◌, ◌++◌, reverse, find, Option, Some, None, refl, sym, ap, subst, ◌∙◌, arith}
use Rattle.std.specs.Option.{option_or}
use Rattle.std.proofs.lemmas.Bool.{cases_eq}
use Rattle.std.proofs.lemmas.List.{reverse-append}
use Rattle.std.proofs.lemmas.List.Folds.{find-append}
use Rattle.ed_syntax.specs.meaning.Values.{count_from, upwards}
use Rattle.ed_rules.specs.facts.SearchOrder.{NonePass, IsFoundForward, IsFoundBackward}

or-some : (a b : Option ℕ) (n : ℕ) → option_or a b ≡ Some n → (a ≡ Some n) ⊎ ((a ≡ None) × (b ≡ Some n))
or-some None b n e = inr (refl, e)
or-some (Some x) b n e = inl e

or-none : (a b : Option ℕ) → option_or a b ≡ None → (a ≡ None) × (b ≡ None)
or-none None b e = (refl, e)
or-none (Some x) b e = cc

same-number : (p : ℕ → Bool) (n m : ℕ) → p n ≡ false → n ≡ m → p m ≡ false
same-number p n m e q = subst (λ (k : ℕ). p k ≡ false) q e

one-more : (p : ℕ → Bool) (a b : ℕ) → p a ≡ false → NonePass p (a + 1) b → NonePass p a b
one-more p a b e k m low high = elim (cases_eq a m) [ inl q ↦ same-number p a m e q | inr q ↦ k m (omega arith) high ]

pub none-up : (p : ℕ → Bool) (first many : ℕ) → find p (count_from first many) ≡ None → NonePass p first (first + many)
none-up p first zero e m low high = absurd (omega arith)
none-up p first (suc many) e m low high =
    (elim (p first) as (λ b. p first ≡ b → cond b (Some first) (find p (count_from (first + 1) many)) ≡ None → p m ≡ false) [
      | true ↦ λ q r. absurd cc
      | false ↦ λ q r. one-more p first (first + suc many) q (λ k l h. none-up p (first + 1) many r k l (omega arith)) m low high
    ]) refl e

-- the first of the numbers from `first` on
pub record IsFirst (p : ℕ → Bool) (first many n : ℕ) : Type 0 where
  pub passes : p n ≡ true
  pub from : first ≤ n
  pub below : n < first + many
  pub none : NonePass p first n

pub first-up : (p : ℕ → Bool) (first many n : ℕ) → find p (count_from first many) ≡ Some n → IsFirst p first many n
first-up p first zero n e = absurd cc
first-up p first (suc many) n e =
    (elim (p first) as (λ b. p first ≡ b → cond b (Some first) (find p (count_from (first + 1) many)) ≡ Some n → IsFirst p first (suc many) n) [
      | true ↦ λ q r.
          let s : first ≡ n = cc in
          record { passes = subst (λ (k : ℕ). p k ≡ true) s q; from = omega arith; below = omega arith; none = λ m l h. absurd (omega arith) }
      | false ↦ λ q r.
          let k = first-up p (first + 1) many n r in
          let from = k.from in
          let below = k.below in
          record { passes = k.passes; from = omega arith; below = omega arith; none = one-more p first n q k.none }
    ]) refl e

reverse-next : (x : ℕ) (xs : List ℕ) → reverse (x ∷ xs) ≡ reverse xs ++ x ∷ []
reverse-next x xs = reverse-append (x ∷ []) xs

find-reverse : (p : ℕ → Bool) (x : ℕ) (xs : List ℕ) → find p (reverse (x ∷ xs)) ≡ option_or (find p (reverse xs)) (cond (p x) (Some x) None)
find-reverse p x xs = ap (find p) (reverse-next x xs) ∙ find-append p (reverse xs) (x ∷ [])

only-none : (b : Bool) (x : ℕ) → cond b (Some x) None ≡ None → b ≡ false
only-none true x e = absurd cc
only-none false x e = refl

only-some : (b : Bool) (x n : ℕ) → cond b (Some x) None ≡ Some n → (b ≡ true) × (x ≡ n)
only-some true x n e = (refl, cc)
only-some false x n e = absurd cc

pub none-down : (p : ℕ → Bool) (first many : ℕ) → find p (reverse (count_from first many)) ≡ None → NonePass p first (first + many)
none-down p first zero e m low high = absurd (omega arith)
none-down p first (suc many) e m low high =
    let k = or-none (find p (reverse (count_from (first + 1) many))) (cond (p first) (Some first) None) (sym (find-reverse p first (count_from (first + 1) many)) ∙ e) in
    one-more p first (first + suc many) (only-none (p first) first k.1) (λ i l h. none-down p (first + 1) many k.0 i l (omega arith)) m low high

-- the last of them
pub record IsLast (p : ℕ → Bool) (first many n : ℕ) : Type 0 where
  pub passes : p n ≡ true
  pub from : first ≤ n
  pub below : n < first + many
  pub none : NonePass p (n + 1) (first + many)

pub last-down : (p : ℕ → Bool) (first many n : ℕ) → find p (reverse (count_from first many)) ≡ Some n → IsLast p first many n
last-down p first zero n e = absurd cc
last-down p first (suc many) n e =
    let rest : List ℕ = count_from (first + 1) many in
    elim (or-some (find p (reverse rest)) (cond (p first) (Some first) None) n (sym (find-reverse p first rest) ∙ e)) [
      | inl r ↦
          let k = last-down p (first + 1) many n r in
          let from = k.from in
          let below = k.below in
          record { passes = k.passes; from = omega arith; below = omega arith; none = λ m l h. k.none m l (omega arith) }
      | inr r ↦
          let s = only-some (p first) first n r.1 in
          let q = s.1 in
          record { passes = subst (λ (k : ℕ). p k ≡ true) q s.0; from = omega arith; below = omega arith; none = λ m l h. none-down p (first + 1) many r.0 m (omega arith) (omega arith) }
    ]

pub forward-found : (p : ℕ → Bool) (current count n : ℕ) → current ≤ count → find p (upwards (current + 1) count ++ upwards 1 current) ≡ Some n → IsFoundForward p current count n
forward-found p current count n inside e =
    let ahead : ℕ = count + 1 - (current + 1) in
    let round : ℕ = current + 1 - 1 in
    elim (or-some (find p (count_from (current + 1) ahead)) (find p (count_from 1 round)) n (sym (find-append p (count_from (current + 1) ahead) (count_from 1 round)) ∙ e)) [
      | inl r ↦
          let k = first-up p (current + 1) ahead n r in
          let from = k.from in
          let below = k.below in
          record { passes = k.passes; from = omega arith; inside = omega arith; lies = inl (omega arith, k.none) }
      | inr r ↦
          let k = first-up p 1 round n r.1 in
          let from = k.from in
          let below = k.below in
          let none = none-up p (current + 1) ahead r.0 in
          record { passes = k.passes; from = from; inside = omega arith; lies = inr (omega arith, (λ m l h. none m l (omega arith)), k.none) }
    ]

pub backward-found : (p : ℕ → Bool) (current count n : ℕ) → current ≤ count → find p (reverse (upwards 1 (current - 1)) ++ reverse (upwards (max 1 current) count)) ≡ Some n →
    IsFoundBackward p current count n
backward-found p current count n inside e =
    let behind : ℕ = current - 1 + 1 - 1 in
    let round : ℕ = count + 1 - max 1 current in
    elim (or-some (find p (reverse (count_from 1 behind))) (find p (reverse (count_from (max 1 current) round))) n
    (sym (find-append p (reverse (count_from 1 behind)) (reverse (count_from (max 1 current) round))) ∙ e)) [
      | inl r ↦
          let k = last-down p 1 behind n r in
          let from = k.from in
          let below = k.below in
          let none = k.none in
          record { passes = k.passes; from = from; inside = omega arith; lies = inl (omega arith, λ m l h. none m l (omega arith)) }
      | inr r ↦
          let k = last-down p (max 1 current) round n r.1 in
          let from = k.from in
          let below = k.below in
          let none = k.none in
          let before = none-down p 1 behind r.0 in
          record { passes = k.passes; from = omega arith; inside = omega arith; lies = inr (omega arith, (λ m l h. before m l (omega arith)), λ m l h. none m l (omega arith)) }
    ]
