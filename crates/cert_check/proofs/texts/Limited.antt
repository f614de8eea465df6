-- Which certificates have a text, test by test.
use Rattle.std.proofs.Common.{◌≡◌, ◌<◌, ◌≤◌, ◌+◌, ◌*◌, ◌/◌, ◌%◌, ◌∷◌, [], ℕ, Bool, List, length, get_or, map, take, None, arith, sym, ap, subst}
use Rattle.std.specs.List.{All}
use Rattle.std.proofs.lemmas.List.{take_more, length-map, get_or-map, take_all}
use Rattle.std.proofs.lemmas.List.Elements.{All-nil, All-cons, All-append}
use Rattle.zones.specs.Zone.{Bounds, bound}
use Rattle.ed_rules.specs.Formed.{may_say}

-- the test at a place
pub at-place : (marks : List Bool) (zone : Bounds) (place : ℕ) →
    may_say marks (place / 32) (place % 32) (bound zone (place / 32) (place % 32)) ≡ may_say marks (place / 32) (place % 32)
    (get_or zone place None)
unfolding bound
at-place marks zone place =
    let at : 32 * (place / 32) + place % 32 ≡ place = omega arith in
    ap (λ k. may_say marks (place / 32) (place % 32) (get_or zone k None)) at

-- what holds of each element, one element further
pub all-more : {X : Type 0} (P : X → Type 0) (xs : List X) (i : ℕ) (x : X) → i < length xs → x ≡ get_or xs i x →
    All P (take i xs) → P x → All P (take (i + 1) xs)
all-more {X} P xs i x h is before here =
    subst (λ (ys : List X). All P ys) (sym (take_more xs i x h))
    (All-append P (take i xs) (get_or xs i x ∷ []) before (All-cons P (get_or xs i x) [] (subst (λ (y : X). P y) is here) (All-nil P)))

pub all-end : {X : Type 0} (P : X → Type 0) (xs : List X) (i : ℕ) → length xs ≤ i → All P (take i xs) → All P xs
all-end {X} P xs i h before = subst (λ (ys : List X). All P ys) (take_all i xs h) before

pub all-fails : {X : Type 0} (P : X → Type 0) (xs : List X) (i : ℕ) (x : X) → i < length xs → x ≡ get_or xs i x →
    (P x → ⊥) → All P xs → ⊥
all-fails {X} P xs i x h is not_here all = not_here (subst (λ (y : X). P y) (sym is) (all i x h))

pub from-map : {X Y : Type 0} (P : X → Type 0) (f : Y → X) (ys : List Y) → All P (map f ys) → All (λ y. P (f y)) ys
from-map {X} P f ys h k d l =
    let size = length-map ys f in
    subst (λ (x : X). P x) (get_or-map f ys k d (f d) l) (h k (f d) (omega arith))
