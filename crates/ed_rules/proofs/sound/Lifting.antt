-- An address that is lifted from 0 to 1.
use Rattle.std.proofs.Common.{◌≡◌, ◌<◌, ◌≤◌, inl, inr, ℕ, ◌+◌, ℤ, pos, negsuc, true, false, cond, Some, max, min, arith, ◌∙◌, ap, refl, sym, subst}
use Rattle.std.proofs.lemmas.Int.{ints}
use Rattle.std.proofs.lemmas.Bool.{cases_eq}
use Rattle.zones.specs.Zone.{Bounds, Numbers, Holds, updated}
use Rattle.zones.specs.Steps.{after_set, after_shift, after_guard, after_forget}
use Rattle.zones.proofs.Soundness.{Holds-after_set, Holds-after_shift, Holds-after_guard, Holds-after_forget}
use Rattle.zones.specs.Known.{known}
use Rattle.ed_rules.specs.Pieces.{lifted}
use Rattle.ed_rules.specs.Lines.{current_inserted}
use Rattle.zones.proofs.Known.{updated-same, updated-other, known-true}

-- a name that is set to what it was
same_all : (v : Numbers) (x : ℕ) (n : ℤ) → v x ≡ n → (p : ℕ) → updated v x n p ≡ v p
same_all v x n e p = elim (cases_eq p x) [
  | inl q ↦ subst (λ (y : ℕ). updated v x n y ≡ v y) (sym q) (updated-same v x n ∙ sym e)
  | inr q ↦ updated-other v x n p q
]

pub Holds-same : (z : Bounds) (v w : Numbers) → ((p : ℕ) → w p ≡ v p) → Holds z v → Holds z w
unfolding Holds
Holds-same z v w same h p q hp hq = rw (same p, same q) (h p q hp hq)

module _ (x n count : ℕ) (z : Bounds) (v : Numbers) (lo : 3 ≤ x) (hi : x < 6) (holds : Holds z v) (v0 : v 0 ≡ pos 0) (v2 : v 2 ≡ pos count) (vx : v x ≡ pos n) (inside : 1 ≤ count → n ≤ count) where
  pub Holds-lifted : Holds (lifted x z) (updated v x (pos (max 1 n)))
  unfolding lifted
  Holds-lifted =
      let m : ℕ = max 1 n in
      let w : Numbers = updated v x (pos m) in
      let wx : w x ≡ pos m = updated-same v x (pos m) in
      let w0 : w 0 ≡ pos 0 = updated-other v x (pos m) 0 (omega arith) ∙ v0 in
      let w2 : w 2 ≡ pos count = updated-other v x (pos m) 2 (omega arith) ∙ v2 in
      let above : 1 ≤ m = omega arith in
      let raised : Bounds = after_guard (after_shift z x (Some (pos 0)) (Some (pos 1))) 0 x (negsuc 0) in
      (elim (known z x 0 (pos 0)) as (λ r. known z x 0 (pos 0) ≡ r → Holds (cond r (after_set z x 0 (pos 1)) (cond (known z 0 x (negsuc 0)) z (cond (known raised 0 2 (negsuc 0)) (after_guard raised x 2 (pos 0)) raised))) w) [
        | true ↦ λ k.
            let d = known-true z v x 0 (pos 0) k (omega arith) (omega arith) holds in
            let one : m ≡ 1 = omega (arith, ints) in
            Holds-after_set z x 0 (pos 1) v w (omega arith) (omega arith) holds (updated-other v x (pos m)) (omega (arith, ints))
        | false ↦ λ _.
            (elim (known z 0 x (negsuc 0)) as (λ r. known z 0 x (negsuc 0) ≡ r → Holds (cond r z (cond (known raised 0 2 (negsuc 0)) (after_guard raised x 2 (pos 0)) raised)) w) [
              | true ↦ λ k.
                  let d = known-true z v 0 x (negsuc 0) k (omega arith) (omega arith) holds in
                  let same : m ≡ n = omega (arith, ints) in
                  Holds-same z v w (λ p. same_all v x (pos m) (vx ∙ ap pos (sym same)) p) holds
              | false ↦ λ _.
                  let r : Holds raised w =
                  Holds-after_guard _ 0 x (negsuc 0) w (omega arith) (omega arith)
                  (Holds-after_shift z x (Some (pos 0)) (Some (pos 1)) v w (omega arith) holds (updated-other v x (pos m)) (omega (arith, ints)) (omega (arith, ints)))
                  (omega (arith, ints)) in
                  (elim (known raised 0 2 (negsuc 0)) as (λ b. known raised 0 2 (negsuc 0) ≡ b → Holds (cond b (after_guard raised x 2 (pos 0)) raised) w) [
                    | true ↦ λ k.
                        let d = known-true raised w 0 2 (negsuc 0) k (omega arith) (omega arith) r in
                        let some : 1 ≤ count = omega (arith, ints) in
                        let le : n ≤ count = inside some in
                        Holds-after_guard raised x 2 (pos 0) w (omega arith) (omega arith) r (omega (arith, ints))
                    | false ↦ λ _. r
                  ]) refl
            ]) refl
      ]) refl

module _ (n count current : ℕ) (z : Bounds) (v : Numbers) (holds : Holds z v) (v2 : v 2 ≡ pos count) (v3 : v 3 ≡ pos n) (inside : n ≤ count + 1) where
  pub Holds-current_inserted : Holds (current_inserted z) (updated v 1 (pos (min n count)))
  unfolding current_inserted
  Holds-current_inserted =
      let m : ℕ = min n count in
      let w : Numbers = updated v 1 (pos m) in
      let upper : m ≤ n = omega arith in
      let lower : n ≤ m + 1 = omega arith in
      (elim (known z 3 2 (pos 0)) as (λ r. known z 3 2 (pos 0) ≡ r → Holds (cond r (after_set z 1 3 (pos 0)) (cond (known z 2 3 (negsuc 0)) (after_set z 1 2 (pos 0)) (after_guard (after_guard (after_forget z 1) 3 1 (pos 1)) 1 3 (pos 0)))) w) [
        | true ↦ λ k.
            let d = known-true z v 3 2 (pos 0) k (omega arith) (omega arith) holds in
            let same : m ≡ n = omega (arith, ints) in
            Holds-after_set z 1 3 (pos 0) v w (omega arith) (omega arith) holds (updated-other v 1 (pos m)) (omega (arith, ints))
        | false ↦ λ _.
            (elim (known z 2 3 (negsuc 0)) as (λ r. known z 2 3 (negsuc 0) ≡ r → Holds (cond r (after_set z 1 2 (pos 0)) (after_guard (after_guard (after_forget z 1) 3 1 (pos 1)) 1 3 (pos 0))) w) [
              | true ↦ λ k.
                  let d = known-true z v 2 3 (negsuc 0) k (omega arith) (omega arith) holds in
                  let same : m ≡ count = omega (arith, ints) in
                  Holds-after_set z 1 2 (pos 0) v w (omega arith) (omega arith) holds (updated-other v 1 (pos m)) (omega (arith, ints))
              | false ↦ λ _.
                  Holds-after_guard _ 1 3 (pos 0) w (omega arith) (omega arith)
                  (Holds-after_guard _ 3 1 (pos 1) w (omega arith) (omega arith) (Holds-after_forget z 1 v w holds (updated-other v 1 (pos m))) (omega (arith, ints)))
                  (omega (arith, ints))
            ]) refl
      ]) refl
