-- Lists of which each is so.
use Rattle.std.proofs.Common.{◌≡◌, inl, inr, ℕ, List, [], ◌∷◌, ◌++◌, map, flat_map, Bool, true, false, cond, ltb, sym}
use Rattle.bre_parse.specs.Ways.{Way, by_end, insert_way}
use Rattle.bre_match.specs.declared.seen.Mark.{Mark}
use Rattle.bre_match.specs.declared.turn.Bounds.{Bounds}
use Rattle.bre_match.specs.Alike.{alike, HasAlike}
use Rattle.bre_match.specs.Keeping.{KeepsFirsts}
use Rattle.bre_match.specs.Outlooks.{Each}
use Rattle.bre_match.specs.Turns.{same_turn, HasTurn}
use Rattle.bre_match.proofs.Keeping.{covers_all}
use Rattle.bre_match.proofs.Likeness.{Covers}

pub each_map : {X : Type 0} (P Q : X → Type 0) (xs : List X) → ((x : X) → P x → Q x) → Each P xs → Each Q xs
each_map P Q [] f h = tt
each_map P Q (x ∷ xs) f h = (f x h.0, each_map P Q xs f h.1)

pub each_append : {X : Type 0} (P : X → Type 0) (xs ys : List X) → Each P xs → Each P ys → Each P (xs ++ ys)
each_append P [] ys h i = i
each_append P (x ∷ xs) ys h i = (h.0, each_append P xs ys h.1 i)

pub each_head : {X : Type 0} (P : X → Type 0) (xs ys : List X) → Each P (xs ++ ys) → Each P xs
each_head P [] ys h = tt
each_head P (x ∷ xs) ys h = (h.0, each_head P xs ys h.1)

pub each_rest : {X : Type 0} (P : X → Type 0) (xs ys : List X) → Each P (xs ++ ys) → Each P ys
each_rest P [] ys h = h
each_rest P (x ∷ xs) ys h = each_rest P xs ys h.1

pub each_of_map : {X Y : Type 0} (P : Y → Type 0) (f : X → Y) (xs : List X) → Each (λ x. P (f x)) xs → Each P (map f xs)
each_of_map P f [] h = tt
each_of_map P f (x ∷ xs) h = (h.0, each_of_map P f xs h.1)

pub each_before_map : {X Y : Type 0} (P : Y → Type 0) (f : X → Y) (xs : List X) → Each P (map f xs) → Each (λ x. P (f x)) xs
each_before_map P f [] h = tt
each_before_map P f (x ∷ xs) h = (h.0, each_before_map P f xs h.1)

pub each_of_all : {X Y : Type 0} (P : Y → Type 0) (f : X → List Y) (xs : List X) → Each (λ x. Each P (f x)) xs → Each P
    (flat_map f xs)
each_of_all P f [] h = tt
each_of_all P f (x ∷ xs) h = each_append P (f x) (flat_map f xs) h.0 (each_of_all P f xs h.1)

pub each_before_all : {X Y : Type 0} (P : Y → Type 0) (f : X → List Y) (xs : List X) → Each P (flat_map f xs) → Each
    (λ x. Each P (f x)) xs
each_before_all P f [] h = tt
each_before_all P f (x ∷ xs) h =
    (each_head P (f x) (flat_map f xs) h, each_before_all P f xs (each_rest P (f x) (flat_map f xs) h))

-- what is so of each for any number
pub each_for_all : {X : Type 0} (P : ℕ → X → Type 0) (xs : List X) → ((n : ℕ) → Each (P n) xs) → Each (λ x.
    (n : ℕ) → P n x) xs
each_for_all P [] h = tt
each_for_all P (x ∷ xs) h = (λ n. (h n).0, each_for_all P xs (λ n. (h n).1))

pub each_insert : (P : Way → Type 0) (w : Way) (ws : List Way) → P w → Each P ws → Each P (insert_way w ws)
each_insert P w [] p h = (p, tt)
each_insert P w (v ∷ vs) p h = by_cases (ltb w.0 v.0) (each_insert P w vs p h.1)
  where
    by_cases : (b : Bool) → Each P (insert_way w vs) → Each P (cond b (v ∷ insert_way w vs) (w ∷ v ∷ vs))
    by_cases true i = (h.0, i)
    by_cases false i = (p, h)

pub each_by_end : (P : Way → Type 0) (ws : List Way) → Each P ws → Each P (by_end ws)
each_by_end P [] h = tt
each_by_end P (w ∷ ws) h = each_insert P w (by_end ws) h.0 (each_by_end P ws h.1)

pub each_like : (asked : List Bool) (P : Way → Type 0) → ((v w : Way) → alike asked v w ≡ true → P v → P w) →
    (xs : List Way) (w : Way)
    → HasAlike asked xs w → Each P xs → P w
each_like asked P f [] w has h = absurd has
each_like asked P f (x ∷ xs) w (inl e) h = f x w e h.0
each_like asked P f (x ∷ xs) w (inr has) h = each_like asked P f xs w has h.1

pub each_covered : (asked : List Bool) (P : Way → Type 0) → ((v w : Way) → alike asked v w ≡ true → P v → P w) →
    (xs ws : List Way)
    → Covers asked xs ws → Each P xs → Each P ws
each_covered asked P f xs [] c h = tt
each_covered asked P f xs (w ∷ ws) c h = (each_like asked P f xs w c.0 h, each_covered asked P f xs ws c.1 h)

-- what is so of the ways that are kept is so of all
pub each_kept : (asked : List Bool) (P : Way → Type 0) → ((v w : Way) → alike asked v w ≡ true → P v → P w) →
    (all kept : List Way)
    → KeepsFirsts asked all kept → Each P kept → Each P all
each_kept asked P f all kept k h = each_covered asked P f kept all (covers_all asked all kept (sym k.same)) h

pub each_turn : (P : Mark → Type 0) (b : Bounds) (asked : List Bool) (ms : List Mark) (u : Mark) → HasTurn b asked ms u → Each P ms
    → (m : Mark) × (same_turn b asked m u ≡ true) × P m
each_turn P b asked [] u has h = absurd has
each_turn P b asked (m ∷ ms) u (inl e) h = (m, e, h.0)
each_turn P b asked (m ∷ ms) u (inr has) h = each_turn P b asked ms u has h.1
