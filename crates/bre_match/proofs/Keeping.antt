-- Ways of which some are left out that are like an earlier one.
use Rattle.std.proofs.Common.{◌≡◌, inl, inr, ℕ, ◌+◌, ◌<◌, ◌≤◌, List, [], ◌∷◌, ◌++◌, map, flat_map, Bool, true, false, cond, ltb, refl, ap, sym, ◌∙◌, subst, arith}
use Rattle.std.proofs.lemmas.Bool.Decides.{nat_tests}
use Rattle.bre_parse.specs.Ways.{Way, by_end, insert_way, with_group}
use Rattle.bre_parse.specs.Laws.{EndBetween}
use Rattle.bre_match.specs.Alike.{alike, unlike, firsts, HasAlike, AreAlike}
use Rattle.bre_match.specs.Keeping.{KeepsFirsts}
use Rattle.bre_match.specs.Narrowing.{weight}
use Rattle.bre_match.proofs.Sorting.{insert_here, insert_past}
use Rattle.bre_match.proofs.Likeness.{alike_ends, alike_turned, alike_through, unlike_out, unlike_in, unlike_swap, Covers, firsts_right, firsts_left, firsts_covered}
use Rattle.bre_match.proofs.SameWays.{firsts_follow, with_group_alike, covers_itself}
use Rattle.bre_match.proofs.Tasks.{weight-append}

-- Putting ways in order keeps the first ones

abbrev AtMost : ℕ → List Way → Type 0
AtMost n [] = Unit {0}
AtMost n (w ∷ ws) = (w.0 ≤ n) × AtMost n ws

abbrev Falling : List Way → Type 0
Falling [] = Unit {0}
Falling (w ∷ ws) = AtMost w.0 ws × Falling ws

at_most_up : (n m : ℕ) (ws : List Way) → n ≤ m → AtMost n ws → AtMost m ws
at_most_up n m [] le h = tt
at_most_up n m (w ∷ ws) le h = (let a = h.0 in omega (arith, a, le), at_most_up n m ws le h.1)

at_most_insert : (n : ℕ) (w : Way) (ws : List Way) → w.0 ≤ n → AtMost n ws → AtMost n (insert_way w ws)
at_most_insert n w [] le h = (le, tt)
at_most_insert n w (v ∷ vs) le h = by_cases (ltb w.0 v.0) (at_most_insert n w vs le h.1)
  where
    by_cases : (b : Bool) → AtMost n (insert_way w vs) → AtMost n (cond b (v ∷ insert_way w vs) (w ∷ v ∷ vs))
    by_cases true i = (h.0, i)
    by_cases false i = (le, h)

falling_insert : (w : Way) (ws : List Way) → Falling ws → Falling (insert_way w ws)
falling_insert w [] h = (tt, tt)
falling_insert w (v ∷ vs) h = by_cases (ltb w.0 v.0) refl (falling_insert w vs h.1)
  where
    by_cases : (b : Bool) → ltb w.0 v.0 ≡ b → Falling (insert_way w vs) → Falling (cond b (v ∷ insert_way w vs) (w ∷ v ∷ vs))
    by_cases true e i = (at_most_insert v.0 w vs (grind (arith, nat_tests)) h.0, i)
    by_cases false e i =
        let le : v.0 ≤ w.0 = grind (arith, nat_tests) in
        ((le, at_most_up v.0 w.0 vs le h.0), h)

falling_by_end : (ws : List Way) → Falling (by_end ws)
falling_by_end [] = tt
falling_by_end (w ∷ ws) = falling_insert w (by_end ws) (falling_by_end ws)

insert_first : (w : Way) (ws : List Way) → AtMost w.0 ws → insert_way w ws ≡ w ∷ ws
insert_first w [] h = refl
insert_first w (v ∷ vs) h = insert_here w v vs h.0

at_most_unlike : (asked : List Bool) (x : Way) (n : ℕ) (ws : List Way) → AtMost n ws → AtMost n (unlike asked x ws)
at_most_unlike asked x n [] h = tt
at_most_unlike asked x n (w ∷ ws) h = by_cases (alike asked x w) (at_most_unlike asked x n ws h.1)
  where
    by_cases : (b : Bool) → AtMost n (unlike asked x ws) → AtMost n (elim b [ true ↦ unlike asked x ws | false ↦ w ∷ unlike asked x ws ])
    by_cases true i = i
    by_cases false i = (h.0, i)

falling_unlike : (asked : List Bool) (x : Way) (ws : List Way) → Falling ws → Falling (unlike asked x ws)
falling_unlike asked x [] h = tt
falling_unlike asked x (w ∷ ws) h = by_cases (alike asked x w) (falling_unlike asked x ws h.1)
  where
    by_cases : (b : Bool) → Falling (unlike asked x ws) → Falling (elim b [ true ↦ unlike asked x ws | false ↦ w ∷ unlike asked x ws ])
    by_cases true i = i
    by_cases false i = (at_most_unlike asked x w.0 ws h.0, i)

at_most_firsts : (asked : List Bool) (n : ℕ) (ws : List Way) → AtMost n ws → AtMost n (firsts asked ws)
at_most_firsts asked n [] h = tt
at_most_firsts asked n (w ∷ ws) h = (h.0, at_most_unlike asked w n (firsts asked ws) (at_most_firsts asked n ws h.1))

falling_firsts : (asked : List Bool) (ws : List Way) → Falling ws → Falling (firsts asked ws)
falling_firsts asked [] h = tt
falling_firsts asked (w ∷ ws) h =
    (at_most_unlike asked w w.0 (firsts asked ws) (at_most_firsts asked w.0 ws h.0), falling_unlike asked w (firsts asked ws) (falling_firsts asked ws h.1))

insert_among : (b : Bool) (w v : Way) (vs : List Way) → ltb w.0 v.0 ≡ b → insert_way w (v ∷ vs) ≡ cond b (v ∷ insert_way w vs) (w ∷ v ∷ vs)
insert_among b w v vs e = ap (λ c. cond c (v ∷ insert_way w vs) (w ∷ v ∷ vs)) e

unlike_insert_out : (asked : List Bool) (x w : Way) (ws : List Way) → alike asked x w ≡ true → unlike asked x (insert_way w ws) ≡ unlike asked x ws
unlike_insert_out asked x w [] e = unlike_out asked x w [] e
unlike_insert_out asked x w (v ∷ vs) e = by_cases (ltb w.0 v.0) (unlike_insert_out asked x w vs e)
  where
    by_cases : (b : Bool) → unlike asked x (insert_way w vs) ≡ unlike asked x vs → unlike asked x (cond b (v ∷ insert_way w vs) (w ∷ v ∷ vs)) ≡ unlike asked x (v ∷ vs)
    by_cases true i = ap (λ l. elim (alike asked x v) [ true ↦ l | false ↦ v ∷ l ]) i
    by_cases false i = unlike_out asked x w (v ∷ vs) e

unlike_insert : (asked : List Bool) (x w : Way) (ws : List Way) → alike asked x w ≡ false → Falling ws → unlike asked x (insert_way w ws) ≡ insert_way w (unlike asked x ws)
unlike_insert asked x w [] e h = unlike_in asked x w [] e
unlike_insert asked x w (v ∷ vs) e h = by_cases (ltb w.0 v.0) refl (alike asked x v) refl (unlike_insert asked x w vs e h.1)
  where
    by_cases : (b : Bool) → ltb w.0 v.0 ≡ b → (d : Bool) → alike asked x v ≡ d → unlike asked x (insert_way w vs) ≡ insert_way w (unlike asked x vs) → unlike asked x (cond b (v ∷ insert_way w vs) (w ∷ v ∷ vs)) ≡ insert_way w (elim d [ true ↦ unlike asked x vs | false ↦ v ∷ unlike asked x vs ])
    by_cases true f true g i = unlike_out asked x v (insert_way w vs) g ∙ i
    by_cases true f false g i =
        unlike_in asked x v (insert_way w vs) g ∙ ap (λ l. v ∷ l) i ∙ sym (insert_past w v (unlike asked x vs) (grind (arith, nat_tests)))
    by_cases false f true g i =
        let le : v.0 ≤ w.0 = grind (arith, nat_tests) in
        unlike_in asked x w (v ∷ vs) e ∙ ap (λ l. w ∷ l) (unlike_out asked x v vs g)
        ∙ sym (insert_first w (unlike asked x vs) (at_most_unlike asked x w.0 vs (at_most_up v.0 w.0 vs le h.0)))
    by_cases false f false g i =
        unlike_in asked x w (v ∷ vs) e ∙ ap (λ l. w ∷ l) (unlike_in asked x v vs g) ∙ sym (insert_here w v (unlike asked x vs) (grind (arith, nat_tests)))

unlike_by_end : (asked : List Bool) (x : Way) (ws : List Way) → unlike asked x (by_end ws) ≡ by_end (unlike asked x ws)
unlike_by_end asked x [] = refl
unlike_by_end asked x (w ∷ ws) = by_cases (alike asked x w) refl (unlike_by_end asked x ws)
  where
    by_cases : (b : Bool) → alike asked x w ≡ b → unlike asked x (by_end ws) ≡ by_end (unlike asked x ws) → unlike asked x (insert_way w (by_end ws)) ≡ by_end (elim b [ true ↦ unlike asked x ws | false ↦ w ∷ unlike asked x ws ])
    by_cases true e i = unlike_insert_out asked x w (by_end ws) e ∙ i
    by_cases false e i = unlike_insert asked x w (by_end ws) e (falling_by_end ws) ∙ ap (insert_way w) i

ends_apart : (asked : List Bool) (v w : Way) → w.0 < v.0 → alike asked v w ≡ false
ends_apart asked v w lt = by_cases (alike asked v w) refl
  where
    by_cases : (b : Bool) → alike asked v w ≡ b → b ≡ false
    by_cases true e = let same = alike_ends asked v w e in absurd (omega (arith, same, lt))
    by_cases false e = refl

firsts_insert : (asked : List Bool) (w : Way) (ws : List Way) → Falling ws → firsts asked (insert_way w ws) ≡ insert_way w (unlike asked w (firsts asked ws))
firsts_insert asked w [] h = refl
firsts_insert asked w (v ∷ vs) h = by_cases (ltb w.0 v.0) refl (firsts_insert asked w vs h.1)
  where
    U : List Way → List Way
    U = unlike asked v

    by_cases : (b : Bool) → ltb w.0 v.0 ≡ b → firsts asked (insert_way w vs) ≡ insert_way w (unlike asked w (firsts asked vs)) → firsts asked (cond b (v ∷ insert_way w vs) (w ∷ v ∷ vs)) ≡ insert_way w (unlike asked w (firsts asked (v ∷ vs)))
    by_cases true e i =
        let lt : w.0 < v.0 = grind (arith, nat_tests) in
        let apart = ends_apart asked v w lt in
        let turned : alike asked w v ≡ false = unturned (alike asked w v) refl apart in
        let falls = falling_unlike asked w (firsts asked vs) (falling_firsts asked vs h.1) in
        ap (λ l. v ∷ unlike asked v l) i
        ∙ ap (λ l. v ∷ l) (unlike_insert asked v w (unlike asked w (firsts asked vs)) apart falls ∙ ap (insert_way w) (unlike_swap asked v w (firsts asked vs)))
        ∙ sym (ap (insert_way w) (unlike_in asked w v (unlike asked v (firsts asked vs)) turned) ∙ insert_past w v (unlike asked w (unlike asked v (firsts asked vs))) lt)
      where
        unturned : (b : Bool) → alike asked w v ≡ b → alike asked v w ≡ false → b ≡ false
        unturned true f g = let back = alike_turned asked w v f in absurd cc
        unturned false f g = refl
    by_cases false e i =
        let le : v.0 ≤ w.0 = grind (arith, nat_tests) in
        sym (insert_first w (unlike asked w (firsts asked (v ∷ vs)))
        (at_most_unlike asked w w.0 (firsts asked (v ∷ vs)) (at_most_firsts asked w.0 (v ∷ vs) (le, at_most_up v.0 w.0 vs le h.0))))

pub firsts_by_end : (asked : List Bool) (ws : List Way) → firsts asked (by_end ws) ≡ by_end (firsts asked ws)
firsts_by_end asked [] = refl
firsts_by_end asked (w ∷ ws) =
    firsts_insert asked w (by_end ws) (falling_by_end ws)
    ∙ ap (λ l. insert_way w (unlike asked w l)) (firsts_by_end asked ws)
    ∙ ap (insert_way w) (unlike_by_end asked w (firsts asked ws))

-- Sums over ways

weight-insert : (f : Way → ℕ) (w : Way) (ws : List Way) → weight f (insert_way w ws) ≡ f w + weight f ws
weight-insert f w [] = refl
weight-insert f w (v ∷ vs) = by_cases (ltb w.0 v.0) (weight-insert f w vs)
  where
    by_cases : (b : Bool) → weight f (insert_way w vs) ≡ f w + weight f vs → weight f (cond b (v ∷ insert_way w vs) (w ∷ v ∷ vs)) ≡ f w + (f v + weight f vs)
    by_cases true i = omega (arith, i)
    by_cases false i = refl

pub weight-by_end : (f : Way → ℕ) (ws : List Way) → weight f (by_end ws) ≡ weight f ws
weight-by_end f [] = refl
weight-by_end f (w ∷ ws) = weight-insert f w (by_end ws) ∙ ap (λ n. f w + n) (weight-by_end f ws)

weight-follow : (g : Way → ℕ) (f : Way → List Way) (ws : List Way) → weight g (flat_map f ws) ≡ weight (λ w. weight g (f w)) ws
weight-follow g f [] = refl
weight-follow g f (w ∷ ws) = weight-append g (f w) (flat_map f ws) ∙ ap (λ n. weight g (f w) + n) (weight-follow g f ws)

-- Keeping the first ones

pub keeps_same : (asked : List Bool) (all kept : List Way) → kept ≡ all → KeepsFirsts asked all kept
keeps_same asked all kept e = record { same = ap (firsts asked) e; fewer = λ f. (let same = ap (weight f) e in omega (arith, same)) }

pub keeps_through : (asked : List Bool) (all some kept : List Way) → KeepsFirsts asked all some → KeepsFirsts asked some kept → KeepsFirsts asked all kept
keeps_through asked all some kept h i = record {
  same = i.same ∙ h.same;
  fewer = λ f. (let a = h.fewer f in let b = i.fewer f in omega (arith, a, b));
}

pub keeps_append : (asked : List Bool) (all kept others left : List Way) → KeepsFirsts asked all kept → KeepsFirsts asked others left → KeepsFirsts asked (all ++ others) (kept ++ left)
keeps_append asked all kept others left h i = record {
  same = firsts_left asked kept all left h.same ∙ firsts_right asked all left others i.same;
  fewer = λ f. (let a = h.fewer f in let b = i.fewer f in let c = weight-append f kept left in let d = weight-append f all others in omega (arith, a, b, c, d));
}

pub keeps_after : (asked : List Bool) (out all kept : List Way) → KeepsFirsts asked all kept → KeepsFirsts asked (out ++ all) (out ++ kept)
keeps_after asked out all kept h = keeps_append asked out out all kept (keeps_same asked out out refl) h

pub keeps_before : (asked : List Bool) (all kept rest : List Way) → KeepsFirsts asked all kept → KeepsFirsts asked (all ++ rest) (kept ++ rest)
keeps_before asked all kept rest h = keeps_append asked all kept rest rest h (keeps_same asked rest rest refl)

pub keeps_by_end : (asked : List Bool) (all kept : List Way) → KeepsFirsts asked all kept → KeepsFirsts asked (by_end all) (by_end kept)
keeps_by_end asked all kept h = record {
  same = firsts_by_end asked kept ∙ ap by_end h.same ∙ sym (firsts_by_end asked all);
  fewer = λ f. (let a = h.fewer f in let b = weight-by_end f kept in let c = weight-by_end f all in omega (arith, a, b, c));
}

pub keeps_follow : (asked : List Bool) (f : Way → List Way) (all kept : List Way) → ((v w : Way) → alike asked v w ≡ true → AreAlike asked (f v) (f w)) → KeepsFirsts asked all kept → KeepsFirsts asked (flat_map f all) (flat_map f kept)
keeps_follow asked f all kept even h = record {
  same = firsts_follow asked f kept all even h.same;
  fewer = λ g. (let a = h.fewer (λ w. weight g (f w)) in let b = weight-follow g f kept in let c = weight-follow g f all in omega (arith, a, b, c));
}

as_flat_map : (h : Way → Way) (ws : List Way) → map h ws ≡ flat_map (λ w. h w ∷ []) ws
as_flat_map h [] = refl
as_flat_map h (w ∷ ws) = ap (λ l. h w ∷ l) (as_flat_map h ws)

pub keeps_group : (asked : List Bool) (i p : ℕ) (all kept : List Way) → KeepsFirsts asked all kept → KeepsFirsts asked (map (with_group i p) all) (map (with_group i p) kept)
keeps_group asked i p all kept h =
    let k = keeps_follow asked (λ w. with_group i p w ∷ []) all kept (λ v w e. (with_group_alike asked i p v w e, tt)) h in
    let a = as_flat_map (with_group i p) all in
    let b = as_flat_map (with_group i p) kept in
    subst (λ l. KeepsFirsts asked (map (with_group i p) all) l) (sym b) (subst (λ l. KeepsFirsts asked l (flat_map (λ w. with_group i p w ∷ []) kept)) (sym a) k)

pub keeps_uncovered : (asked : List Bool) (xs ws ys : List Way) → Covers asked xs ws → KeepsFirsts asked (xs ++ (ws ++ ys)) (xs ++ ys)
keeps_uncovered asked xs ws ys c = record {
  same = sym (firsts_covered asked xs ws ys c);
  fewer = λ f. (let a = weight-append f xs (ws ++ ys) in let b = weight-append f ws ys in let d = weight-append f xs ys in omega (arith, a, b, d));
}

-- What is covered by ways is covered by their first ones, and by all that have the same first ones

has_unlike : (asked : List Bool) (x w : Way) (ws : List Way) → alike asked x w ≡ false → HasAlike asked ws w → HasAlike asked (unlike asked x ws) w
has_unlike asked x w [] e h = absurd h
has_unlike asked x w (v ∷ vs) e (inl f) = by_cases (alike asked x v) refl
  where
    by_cases : (b : Bool) → alike asked x v ≡ b → HasAlike asked (elim b [ true ↦ unlike asked x vs | false ↦ v ∷ unlike asked x vs ]) w
    by_cases true g = let j = alike_through asked x v w g f in absurd cc
    by_cases false g = inl f
has_unlike asked x w (v ∷ vs) e (inr h) = by_cases (alike asked x v) (has_unlike asked x w vs e h)
  where
    by_cases : (b : Bool) → HasAlike asked (unlike asked x vs) w → HasAlike asked (elim b [ true ↦ unlike asked x vs | false ↦ v ∷ unlike asked x vs ]) w
    by_cases true i = i
    by_cases false i = inr i

unlike_has : (asked : List Bool) (x w : Way) (ws : List Way) → HasAlike asked (unlike asked x ws) w → HasAlike asked ws w
unlike_has asked x w [] h = h
unlike_has asked x w (v ∷ vs) h = by_cases (alike asked x v) (λ i. unlike_has asked x w vs i) h
  where
    by_cases : (b : Bool) → (HasAlike asked (unlike asked x vs) w → HasAlike asked vs w) → HasAlike asked (elim b [ true ↦ unlike asked x vs | false ↦ v ∷ unlike asked x vs ]) w → HasAlike asked (v ∷ vs) w
    by_cases true later i = inr (later i)
    by_cases false later (inl e) = inl e
    by_cases false later (inr i) = inr (later i)

has_first : (asked : List Bool) (ws : List Way) (w : Way) → HasAlike asked ws w → HasAlike asked (firsts asked ws) w
has_first asked [] w h = h
has_first asked (v ∷ vs) w (inl e) = inl e
has_first asked (v ∷ vs) w (inr h) = by_cases (alike asked v w) refl (has_first asked vs w h)
  where
    by_cases : (b : Bool) → alike asked v w ≡ b → HasAlike asked (firsts asked vs) w → HasAlike asked (v ∷ unlike asked v (firsts asked vs)) w
    by_cases true e i = inl e
    by_cases false e i = inr (has_unlike asked v w (firsts asked vs) e i)

first_has : (asked : List Bool) (ws : List Way) (w : Way) → HasAlike asked (firsts asked ws) w → HasAlike asked ws w
first_has asked [] w h = h
first_has asked (v ∷ vs) w (inl e) = inl e
first_has asked (v ∷ vs) w (inr h) = inr (first_has asked vs w (unlike_has asked v w (firsts asked vs) h))

pub covers_same : (asked : List Bool) (xs ys ws : List Way) → firsts asked xs ≡ firsts asked ys → Covers asked xs ws → Covers asked ys ws
covers_same asked xs ys [] e c = tt
covers_same asked xs ys (w ∷ ws) e c =
    (first_has asked ys w (subst (λ l. HasAlike asked l w) e (has_first asked xs w c.0)), covers_same asked xs ys ws e c.1)

-- what is kept covers all
pub covers_all : (asked : List Bool) (xs ys : List Way) → firsts asked xs ≡ firsts asked ys → Covers asked ys xs
covers_all asked xs ys e = covers_same asked xs ys xs e (covers_itself asked xs)

has_between : (asked : List Bool) (low high : ℕ) (xs : List Way) (w : Way) → EndBetween low high xs → HasAlike asked xs w → (low ≤ w.0) × (w.0 ≤ high)
has_between asked low high [] w h i = absurd i
has_between asked low high (x ∷ xs) w h (inl e) =
    let same = alike_ends asked x w e in let a = h.0 in let b = h.1 in (omega (arith, same, a), omega (arith, same, b))
has_between asked low high (x ∷ xs) w h (inr i) = has_between asked low high xs w h.2 i

covered_between : (asked : List Bool) (low high : ℕ) (xs ws : List Way) → EndBetween low high xs → Covers asked xs ws → EndBetween low high ws
covered_between asked low high xs [] h c = tt
covered_between asked low high xs (w ∷ ws) h c =
    let b = has_between asked low high xs w h c.0 in (b.0, b.1, covered_between asked low high xs ws h c.1)

pub kept_between : (asked : List Bool) (low high : ℕ) (all kept : List Way) → KeepsFirsts asked all kept → EndBetween low high all → EndBetween low high kept
kept_between asked low high all kept k h = covered_between asked low high all kept h (covers_all asked kept all k.same)
