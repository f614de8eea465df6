-- What is told after another, in the order of a list.
use Rattle.std.proofs.Common.{◌≡◌, ℕ, suc, ◌+◌, ◌<◌, Bool, true, false, ◌||◌, List, ◌∷◌, length, get_or, drop, refl, ap, sym, ◌∙◌, add-one, drop-cons}

-- one more at the end of some
pub or_swap : (a b c : Bool) → (b || (a || c)) ≡ ((a || b) || c)
or_swap true true c = refl
or_swap true false c = refl
or_swap false true c = refl
or_swap false false c = refl

-- an element of a list that was told, before those that are left
pub told_more : {X : Type 0} (before after : List X → Bool) (shown : Bool) (xs : List X) (i : ℕ) (x d : X) (old new : Bool) →
    ((rest : List X) → before (x ∷ rest) ≡ (shown || after rest)) → i < length xs → x ≡ get_or xs i d → new ≡ (shown || old) →
    (after (drop (i + 1) xs) || new) ≡ (before (drop i xs) || old)
told_more before after shown xs i x d old new step within is e =
    let cut : drop i xs ≡ x ∷ drop (suc i) xs = drop-cons xs i d within ∙ ap (λ y. y ∷ drop (suc i) xs) (sym is) in
    rw (add-one, cut, step (drop (suc i) xs), e) (or_swap shown (after (drop (suc i) xs)) old)

-- two that were told from the last to the first
pub or_two : (a b t : Bool) → (a || (b || t)) ≡ ((a || b) || t)
or_two true b t = refl
or_two false b t = refl

-- four that were told from the last to the first
pub or_four : (a b c d t : Bool) → (a || (b || (c || (d || t)))) ≡ ((a || (b || (c || (d || false)))) || t)
or_four true b c d t = refl
or_four false true c d t = refl
or_four false false true d t = refl
or_four false false false true t = refl
or_four false false false false t = refl

-- three that were told from the first to the last
pub or_three : (a b c t : Bool) → (c || (b || (a || t))) ≡ (((a || b) || c) || t)
or_three true true true t = refl
or_three true true false t = refl
or_three true false true t = refl
or_three true false false t = refl
or_three false true true t = refl
or_three false true false t = refl
or_three false false true t = refl
or_three false false false t = refl

-- nothing was told before
pub or_none : (a b : Bool) → (a || (b || false)) ≡ (a || b)
or_none true b = refl
or_none false true = refl
or_none false false = refl

-- neither of two
pub neither : (a b : Bool) → (a || b) ≡ false → (a ≡ false) × (b ≡ false)
neither false b e = (refl, e)
neither true b e = absurd cc
