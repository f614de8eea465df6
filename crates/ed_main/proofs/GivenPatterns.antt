-- The patterns that a start states, as they are given.
use Rattle.std.proofs.Common.{◌≡◌, ℕ, Bool, true, false, List, [], ◌∷◌, length, map, Bor, Some, None, refl, sym, subst, ◌==◌}
use Rattle.std.proofs.lemmas.Bool.{eqb-true}
use Rattle.std.proofs.lemmas.List.{nil_from_length}
use Rattle.ed_rules.specs.Texts.{with_texts}
use Rattle.ed_main.specs.Words.{stated}

-- where they are asked for
pub set_stated : (texts : List (Bor (List ℕ))) → Some (with_texts (map (λ t. t.now) texts) []) ≡ stated true (map (λ t. t.now) texts)
set_stated [] = refl
set_stated (text ∷ texts) = refl

-- where they aren't and none is given
pub none_stated : (texts : List (Bor (List ℕ))) → true ≡ (length texts == 0) → None ≡ stated false (map (λ t. t.now) texts)
none_stated texts e = subst (λ (ts : List (Bor (List ℕ))). None ≡ stated false (map (λ t. t.now) ts)) (sym (nil_from_length texts (eqb-true (length texts) 0 (sym e)))) refl

-- where one is given
pub some_stated : (asked : Bool) (texts : List (Bor (List ℕ))) → false ≡ (length texts == 0) → Some (with_texts (map (λ t. t.now) texts) []) ≡ stated asked (map (λ t. t.now) texts)
some_stated asked [] e = absurd cc
some_stated asked (text ∷ texts) e = refl
