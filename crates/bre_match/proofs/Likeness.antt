-- Ways that are alike: of each kind the first alone counts for what comes after.
use Rattle.std.proofs.Common.{◌≡◌, inl, inr, ℕ, zero, suc, ◌<◌, List, [], ◌∷◌, ◌++◌, Option, Some, None, Bool, true, false, eqb, refl, ap, sym, ◌∙◌, append-nil, arith, length, get_or}
use Rattle.std.specs.Prelude.{◌&&◌}
use Rattle.std.proofs.lemmas.Bool.Decides.{nat_tests}
use Rattle.bre_parse.specs.Groups.{Groups}
use Rattle.bre_parse.specs.Ways.{Way}
use Rattle.bre_match.specs.Alike.{same_span, same_asked, alike, unlike, firsts, HasAlike}
use Rattle.bre_match.specs.declared.seen.Mark.{Mark}
use Rattle.bre_match.specs.declared.turn.Bounds.{Bounds}
use Rattle.bre_match.specs.Turns.{same_turn, HasTurn}

pub both_left : (x y : Bool) → (x && y) ≡ true → x ≡ true
both_left true y e = refl
both_left false y e = absurd cc

pub both_right : (x y : Bool) → (x && y) ≡ true → y ≡ true
both_right true y e = e
both_right false y e = absurd cc

pub both : (x y : Bool) → x ≡ true → y ≡ true → (x && y) ≡ true
both x y e f = rw (e, f) refl

-- Being alike is an equivalence

same_number : (n : ℕ) → eqb n n ≡ true
same_number n = grind (arith, nat_tests)

number_same : (m n : ℕ) → eqb m n ≡ true → m ≡ n
number_same m n e = grind (arith, nat_tests)

pub span_itself : (o : Option (ℕ × ℕ)) → same_span o o ≡ true
span_itself None = refl
span_itself (Some s) = both (eqb s.0 s.0) (eqb s.1 s.1) (same_number s.0) (same_number s.1)

pub span_same : (o p : Option (ℕ × ℕ)) → same_span o p ≡ true → o ≡ p
span_same None None e = refl
span_same None (Some t) e = absurd cc
span_same (Some s) None e = absurd cc
span_same (Some s) (Some t) e =
    let a = number_same s.0 t.0 (both_left (eqb s.0 t.0) (eqb s.1 t.1) e) in
    let b = number_same s.1 t.1 (both_right (eqb s.0 t.0) (eqb s.1 t.1) e) in
    ap (λ x. Some (x, s.1)) a ∙ ap (λ x. Some (t.0, x)) b

pub asked_itself : (asked : List Bool) (g : Groups) → same_asked asked g g ≡ true
asked_itself asked [] = refl
asked_itself [] (o ∷ g) = both (same_span o o) (same_asked [] g g) (span_itself o) (asked_itself [] g)
asked_itself (true ∷ asked) (o ∷ g) = both (same_span o o) (same_asked asked g g) (span_itself o) (asked_itself asked g)
asked_itself (false ∷ asked) (o ∷ g) = asked_itself asked g

-- what is like one of two that are alike is like the other
pub asked_same : (asked : List Bool) (g h i : Groups) → same_asked asked g h ≡ true → same_asked asked g i ≡ same_asked asked h i
asked_same asked [] [] i e = refl
asked_same asked [] (p ∷ h) i e = absurd cc
asked_same asked (o ∷ g) [] i e = absurd cc
asked_same asked (o ∷ g) (p ∷ h) [] e = refl
asked_same [] (o ∷ g) (p ∷ h) (q ∷ i) e =
    let a = span_same o p (both_left (same_span o p) (same_asked [] g h) e) in
    let b = asked_same [] g h i (both_right (same_span o p) (same_asked [] g h) e) in
    ap (λ x. same_span x q && same_asked [] g i) a ∙ ap (λ x. same_span p q && x) b
asked_same (true ∷ asked) (o ∷ g) (p ∷ h) (q ∷ i) e =
    let a = span_same o p (both_left (same_span o p) (same_asked asked g h) e) in
    let b = asked_same asked g h i (both_right (same_span o p) (same_asked asked g h) e) in
    ap (λ x. same_span x q && same_asked asked g i) a ∙ ap (λ x. same_span p q && x) b
asked_same (false ∷ asked) (o ∷ g) (p ∷ h) (q ∷ i) e = asked_same asked g h i e

pub alike_itself : (asked : List Bool) (w : Way) → alike asked w w ≡ true
alike_itself asked w = both (eqb w.0 w.0) (same_asked asked w.1 w.1) (same_number w.0) (asked_itself asked w.1)

pub alike_ends : (asked : List Bool) (v w : Way) → alike asked v w ≡ true → v.0 ≡ w.0
alike_ends asked v w e = number_same v.0 w.0 (both_left (eqb v.0 w.0) (same_asked asked v.1 w.1) e)

pub alike_groups : (asked : List Bool) (v w : Way) → alike asked v w ≡ true → same_asked asked v.1 w.1 ≡ true
alike_groups asked v w e = both_right (eqb v.0 w.0) (same_asked asked v.1 w.1) e

pub alike_made : (asked : List Bool) (v w : Way) → v.0 ≡ w.0 → same_asked asked v.1 w.1 ≡ true → alike asked v w ≡ true
alike_made asked v w e f = both (eqb v.0 w.0) (same_asked asked v.1 w.1) (grind (arith, nat_tests)) f

pub alike_same : (asked : List Bool) (v w z : Way) → alike asked v w ≡ true → alike asked v z ≡ alike asked w z
alike_same asked v w z e =
    ap (λ n. eqb n z.0 && same_asked asked v.1 z.1) (alike_ends asked v w e)
    ∙ ap (λ b. eqb w.0 z.0 && b) (asked_same asked v.1 w.1 z.1 (alike_groups asked v w e))

pub alike_turned : (asked : List Bool) (v w : Way) → alike asked v w ≡ true → alike asked w v ≡ true
alike_turned asked v w e = sym (alike_same asked v w v e) ∙ alike_itself asked v

pub alike_through : (asked : List Bool) (v w z : Way) → alike asked v w ≡ true → alike asked w z ≡ true → alike asked v z ≡ true
alike_through asked v w z e f = alike_same asked v w z e ∙ f

-- Leaving out what is like a way

pub unlike_out : (asked : List Bool) (w v : Way) (vs : List Way) → alike asked w v ≡ true → unlike asked w (v ∷ vs) ≡ unlike asked w vs
unlike_out asked w v vs e = rw (e, unlike) refl

pub unlike_in : (asked : List Bool) (w v : Way) (vs : List Way) → alike asked w v ≡ false → unlike asked w (v ∷ vs) ≡ v ∷ unlike asked w vs
unlike_in asked w v vs e = rw (e, unlike) refl

unlike_append : (asked : List Bool) (w : Way) (xs ys : List Way) → unlike asked w (xs ++ ys) ≡ unlike asked w xs ++ unlike asked w ys
unlike_append asked w [] ys = refl
unlike_append asked w (x ∷ xs) ys = by_cases (alike asked w x) (unlike_append asked w xs ys)
  where
    by_cases : (b : Bool) → unlike asked w (xs ++ ys) ≡ unlike asked w xs ++ unlike asked w ys → elim b [ true ↦ unlike asked w (xs ++ ys) | false ↦ x ∷ unlike asked w (xs ++ ys) ] ≡ (elim b [ true ↦ unlike asked w xs | false ↦ x ∷ unlike asked w xs ]) ++ unlike asked w ys
    by_cases true e = e
    by_cases false e = ap (λ l. x ∷ l) e

pub unlike_swap : (asked : List Bool) (v w : Way) (xs : List Way) → unlike asked v (unlike asked w xs) ≡ unlike asked w (unlike asked v xs)
unlike_swap asked v w [] = refl
unlike_swap asked v w (x ∷ xs) = by_cases (alike asked v x) refl (alike asked w x) refl (unlike_swap asked v w xs)
  where
    by_cases : (a : Bool) → alike asked v x ≡ a → (b : Bool) → alike asked w x ≡ b → unlike asked v (unlike asked w xs) ≡ unlike asked w (unlike asked v xs) → unlike asked v (unlike asked w (x ∷ xs)) ≡ unlike asked w (unlike asked v (x ∷ xs))
    by_cases true e true f i =
        ap (unlike asked v) (unlike_out asked w x xs f) ∙ i ∙ sym (ap (unlike asked w) (unlike_out asked v x xs e))
    by_cases true e false f i =
        ap (unlike asked v) (unlike_in asked w x xs f) ∙ unlike_out asked v x (unlike asked w xs) e ∙ i ∙ sym (ap (unlike asked w) (unlike_out asked v x xs e))
    by_cases false e true f i =
        ap (unlike asked v) (unlike_out asked w x xs f) ∙ i ∙ sym (ap (unlike asked w) (unlike_in asked v x xs e) ∙ unlike_out asked w x (unlike asked v xs) f)
    by_cases false e false f i =
        ap (unlike asked v) (unlike_in asked w x xs f) ∙ unlike_in asked v x (unlike asked w xs) e ∙ ap (λ l. x ∷ l) i
        ∙ sym (ap (unlike asked w) (unlike_in asked v x xs e) ∙ unlike_in asked w x (unlike asked v xs) f)

-- ways that are alike leave out the same
unlike_same : (asked : List Bool) (v w : Way) (xs : List Way) → alike asked v w ≡ true → unlike asked v xs ≡ unlike asked w xs
unlike_same asked v w [] e = refl
unlike_same asked v w (x ∷ xs) e =
    ap (λ b. elim b [ true ↦ unlike asked v xs | false ↦ x ∷ unlike asked v xs ]) (alike_same asked v w x e)
    ∙ ap (λ l. elim (alike asked w x) [ true ↦ l | false ↦ x ∷ l ]) (unlike_same asked v w xs e)

unlike_twice : (asked : List Bool) (w : Way) (xs : List Way) → unlike asked w (unlike asked w xs) ≡ unlike asked w xs
unlike_twice asked w [] = refl
unlike_twice asked w (x ∷ xs) = by_cases (alike asked w x) refl (unlike_twice asked w xs)
  where
    by_cases : (b : Bool) → alike asked w x ≡ b → unlike asked w (unlike asked w xs) ≡ unlike asked w xs → unlike asked w (unlike asked w (x ∷ xs)) ≡ unlike asked w (x ∷ xs)
    by_cases true e i =
        ap (unlike asked w) (unlike_out asked w x xs e) ∙ i ∙ sym (unlike_out asked w x xs e)
    by_cases false e i =
        ap (unlike asked w) (unlike_in asked w x xs e) ∙ unlike_in asked w x (unlike asked w xs) e ∙ ap (λ l. x ∷ l) i ∙ sym (unlike_in asked w x xs e)

-- it doesn't matter whether a way's like are left out before or after the first ones are chosen
unlike_firsts : (asked : List Bool) (w : Way) (xs : List Way) → unlike asked w (firsts asked xs) ≡ firsts asked (unlike asked w xs)
unlike_firsts asked w [] = refl
unlike_firsts asked w (x ∷ xs) = by_cases (alike asked w x) refl (unlike_firsts asked w xs)
  where
    by_cases : (b : Bool) → alike asked w x ≡ b → unlike asked w (firsts asked xs) ≡ firsts asked (unlike asked w xs) → unlike asked w (firsts asked (x ∷ xs)) ≡ firsts asked (unlike asked w (x ∷ xs))
    by_cases true e i =
        unlike_out asked w x (unlike asked x (firsts asked xs)) e
        ∙ ap (unlike asked w) (sym (unlike_same asked w x (firsts asked xs) e))
        ∙ unlike_twice asked w (firsts asked xs)
        ∙ i
        ∙ sym (ap (firsts asked) (unlike_out asked w x xs e))
    by_cases false e i =
        unlike_in asked w x (unlike asked x (firsts asked xs)) e
        ∙ ap (λ l. x ∷ l) (unlike_swap asked w x (firsts asked xs) ∙ ap (unlike asked x) i)
        ∙ sym (ap (firsts asked) (unlike_in asked w x xs e))

-- Appending

pub firsts_right : (asked : List Bool) (xs ys zs : List Way) → firsts asked ys ≡ firsts asked zs → firsts asked (xs ++ ys) ≡ firsts asked (xs ++ zs)
firsts_right asked [] ys zs e = e
firsts_right asked (x ∷ xs) ys zs e = ap (λ l. x ∷ unlike asked x l) (firsts_right asked xs ys zs e)

firsts_taken : (asked : List Bool) (xs ys : List Way) → firsts asked (firsts asked xs ++ ys) ≡ firsts asked (xs ++ ys)
firsts_taken asked [] ys = refl
firsts_taken asked (x ∷ xs) ys =
    let U = unlike asked x in
    let a : U (firsts asked (U (firsts asked xs) ++ ys)) ≡ U (firsts asked (xs ++ ys)) =
    unlike_firsts asked x (U (firsts asked xs) ++ ys)
    ∙ ap (firsts asked) (unlike_append asked x (U (firsts asked xs)) ys
    ∙ ap (λ l. l ++ U ys) (unlike_twice asked x (firsts asked xs))
    ∙ sym (unlike_append asked x (firsts asked xs) ys))
    ∙ sym (unlike_firsts asked x (firsts asked xs ++ ys))
    ∙ ap U (firsts_taken asked xs ys) in
    ap (λ l. x ∷ l) a

pub firsts_left : (asked : List Bool) (xs ys zs : List Way) → firsts asked xs ≡ firsts asked ys → firsts asked (xs ++ zs) ≡ firsts asked (ys ++ zs)
firsts_left asked xs ys zs e =
    sym (firsts_taken asked xs zs) ∙ ap (λ l. firsts asked (l ++ zs)) e ∙ firsts_taken asked ys zs

pub firsts_twice : (asked : List Bool) (xs : List Way) → firsts asked (firsts asked xs) ≡ firsts asked xs
firsts_twice asked xs =
    ap (firsts asked) (sym (append-nil (firsts asked xs))) ∙ firsts_taken asked xs [] ∙ ap (firsts asked) (append-nil xs)

-- Ways that are covered by others before them

abbrev pub Covers : List Bool → List Way → List Way → Type 0
Covers asked xs [] = Unit {0}
Covers asked xs (w ∷ ws) = HasAlike asked xs w × Covers asked xs ws

unlike_none : (asked : List Bool) (v w : Way) (xs ys : List Way) → alike asked v w ≡ true → unlike asked v (xs ++ w ∷ ys) ≡ unlike asked v (xs ++ ys)
unlike_none asked v w [] ys e = unlike_out asked v w ys e
unlike_none asked v w (x ∷ xs) ys e =
    ap (λ l. elim (alike asked v x) [ true ↦ l | false ↦ x ∷ l ]) (unlike_none asked v w xs ys e)

pub firsts_drop : (asked : List Bool) (w : Way) (xs ys : List Way) → HasAlike asked xs w → firsts asked (xs ++ w ∷ ys) ≡ firsts asked (xs ++ ys)
firsts_drop asked w [] ys h = absurd h
firsts_drop asked w (x ∷ xs) ys (inl e) =
    ap (λ l. x ∷ l) (unlike_firsts asked x (xs ++ w ∷ ys) ∙ ap (firsts asked) (unlike_none asked x w xs ys e) ∙ sym (unlike_firsts asked x (xs ++ ys)))
firsts_drop asked w (x ∷ xs) ys (inr h) = ap (λ l. x ∷ unlike asked x l) (firsts_drop asked w xs ys h)

pub firsts_covered : (asked : List Bool) (xs ws ys : List Way) → Covers asked xs ws → firsts asked (xs ++ (ws ++ ys)) ≡ firsts asked (xs ++ ys)
firsts_covered asked xs [] ys c = refl
firsts_covered asked xs (w ∷ ws) ys c = firsts_drop asked w xs (ws ++ ys) c.0 ∙ firsts_covered asked xs ws ys c.1

pub has_at : (asked : List Bool) (ws : List Way) (i : ℕ) (w d : Way) → i < length ws → alike asked (get_or ws i d) w ≡ true → HasAlike asked ws w
has_at asked [] i w d lt e = absurd (omega arith)
has_at asked (v ∷ vs) zero w d lt e = inl e
has_at asked (v ∷ vs) (suc i) w d lt e = inr (has_at asked vs i w d (omega arith) e)

pub has_turn_at : (bounds : Bounds) (asked : List Bool) (ms : List Mark) (i : ℕ) (m d : Mark) → i < length ms → same_turn bounds asked (get_or ms i d) m ≡ true → HasTurn bounds asked ms m
has_turn_at bounds asked [] i m d lt e = absurd (omega arith)
has_turn_at bounds asked (x ∷ ms) zero m d lt e = inl e
has_turn_at bounds asked (x ∷ ms) (suc i) m d lt e = inr (has_turn_at bounds asked ms i m d (omega arith) e)
