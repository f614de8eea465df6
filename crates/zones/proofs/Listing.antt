-- The known bounds of a zone, in the order of their places.
use Rattle.std.proofs.Common.{◌≡◌, ◌≢◌, ◌<◌, ◌≤◌, ◌+◌, ◌⊎◌, inl, inr, ℕ, zero, suc, ℤ, List, [], ◌∷◌, get_or, set, drop, length, Option, Some, None, true, false, All, Contains, arith, ◌∙◌, ap, refl, sym, subst, add-one, drop-cons, length-set, get_or-set_other, below_more}
use Rattle.std.specs.Option.{option_eq}
use Rattle.std.specs.Ordering.{int_eq}
use Rattle.std.proofs.lemmas.Bool.Decides.{Decides-int_eq, eqb_tells}
use Rattle.std.proofs.lemmas.List.{drop_all}
use Rattle.std.proofs.lemmas.List.Elements.{All-nil, All-cons}
use Rattle.zones.specs.Zone.{Bounds}
use Rattle.zones.specs.Steps.{any_zone, any_bound}
use Rattle.zones.specs.KnownBounds.{PlacedBound, is_unknown, known_from, known_bounds}
use Rattle.zones.specs.Written.{written, any_at, known_after}
use Rattle.zones.proofs.Keeping.{written-is}
use Rattle.zones.proofs.Places.{each-set, get_or-any_zone, length-zone_by}

pub option_eq-true : (a b : Option ℤ) → option_eq int_eq a b ≡ true → a ≡ b
option_eq-true None None h = refl
option_eq-true None (Some b) h = cc
option_eq-true (Some a) None h = cc
option_eq-true (Some a) (Some b) h = ap (λ (n : ℤ). Some n) ((Decides-int_eq a b).0 h)

pub option_eq-itself : (a : Option ℤ) → option_eq int_eq a a ≡ true
option_eq-itself None = refl
option_eq-itself (Some a) = (Decides-int_eq a a).1 refl

-- a bound is known or it isn't
pub unknown-cases : (place : ℕ) (b : Option ℤ) → (b ≡ any_at place) ⊎ (b ≢ any_at place)
unknown-cases place b =
    (elim (is_unknown place b) as (λ t. is_unknown place b ≡ t → (b ≡ any_at place) ⊎ (b ≢ any_at place)) [
      | true ↦ λ e. inl (option_eq-true b (any_at place) e)
      | false ↦ λ e. inr (λ same. let bad : option_eq int_eq (any_at place) (any_at place) ≡ false = subst (λ (c : Option ℤ). option_eq int_eq c (any_at place) ≡ false) same e in
          let good = option_eq-itself (any_at place) in cc)
    ]) refl

is_unknown-true : (place : ℕ) (b : Option ℤ) → b ≡ any_at place → is_unknown place b ≡ true
is_unknown-true place b e = rw e (option_eq-itself (any_at place))

is_unknown-false : (place : ℕ) (b : Option ℤ) → b ≢ any_at place → is_unknown place b ≡ false
is_unknown-false place b n =
    (elim (is_unknown place b) as (λ t. is_unknown place b ≡ t → t ≡ false) [
      | true ↦ λ e. absurd (n (option_eq-true b (any_at place) e))
      | false ↦ λ e. refl
    ]) refl

known_from-unknown : (place : ℕ) (b : Option ℤ) (bounds : Bounds) → b ≡ any_at place → known_from place (b ∷ bounds) ≡ known_from (suc place) bounds
known_from-unknown place b bounds e = rw (is_unknown-true place b e) refl

known_from-known : (place : ℕ) (b : Option ℤ) (bounds : Bounds) → b ≢ any_at place →
    known_from place (b ∷ bounds) ≡ (record { place = place; bound = b }) ∷ known_from (suc place) bounds
known_from-known place b bounds n = rw (is_unknown-false place b n) refl

-- of a zone's bounds from a place on: the one at that place is known, or it isn't
pub known_from-skip : (zone : Bounds) (place : ℕ) → place < length zone → get_or zone place None ≡ any_at place →
    known_from place (drop place zone) ≡ known_from (place + 1) (drop (place + 1) zone)
known_from-skip zone place h e =
    rw (drop-cons zone place None h, add-one) (known_from-unknown place (get_or zone place None) (drop (suc place) zone) e)

pub known_from-next : (zone : Bounds) (place : ℕ) → place < length zone → get_or zone place None ≢ any_at place →
    known_from place (drop place zone) ≡ (record { place = place; bound = get_or zone place None }) ∷ known_from (place + 1) (drop (place + 1) zone)
known_from-next zone place h n =
    rw (drop-cons zone place None h, add-one) (known_from-known place (get_or zone place None) (drop (suc place) zone) n)

pub known_from-end : (zone : Bounds) (place : ℕ) → length zone ≤ place → known_from place (drop place zone) ≡ []
known_from-end zone place h = rw (drop_all place zone h) refl

-- a bound is one of a zone's, and known
pub record IsListed (zone : Bounds) (b : PlacedBound) : Type 0 where
  pub placed : b.place < length zone
  pub at : b.bound ≡ get_or zone b.place None
  pub known : b.bound ≢ any_at b.place

All-known_from : (n place : ℕ) (zone : Bounds) → place + n ≡ length zone → All (IsListed zone) (known_from place (drop place zone))
All-known_from zero place zone size = rw (known_from-end zone place (omega arith)) (All-nil (IsListed zone))
All-known_from (suc n) place zone size =
    let later = All-known_from n (place + 1) zone (omega arith) in
    elim (unknown-cases place (get_or zone place None)) [
      | inl e ↦ rw (known_from-skip zone place (omega arith) e) later
      | inr k ↦ rw (known_from-next zone place (omega arith) k)
          (All-cons (IsListed zone) _ _ (record { placed = omega arith; at = refl; known = k }) later)
    ]

pub All-known_bounds : (zone : Bounds) → All (IsListed zone) (known_bounds zone)
unfolding known_bounds
All-known_bounds zone = All-known_from (length zone) 0 zone (omega arith)

-- each bound that isn't listed isn't known
Contains-more : (x b : PlacedBound) (xs : List PlacedBound) → Contains xs b → Contains (x ∷ xs) b
Contains-more x b xs h = (suc h.0, omega (arith, h.1), h.2)

Contains-known_from : (n place : ℕ) (zone : Bounds) → place + n ≡ length zone → (k : ℕ) → place ≤ k → k < length zone →
    get_or zone k None ≢ any_at k → Contains (known_from place (drop place zone)) (record { place = k; bound = get_or zone k None })
Contains-known_from zero place zone size k low high known = absurd (omega arith)
Contains-known_from (suc n) place zone size k low high known =
    elim (eqb_tells k place) [
      | inl t ↦ rw t.1 (rw (known_from-next zone place (omega arith) (subst (λ (i : ℕ). get_or zone i None ≢ any_at i) t.1 known)) (0, omega arith, refl))
      | inr t ↦ let later = Contains-known_from n (place + 1) zone (omega arith) k (omega (arith, t.1)) high known in
          elim (unknown-cases place (get_or zone place None)) [
            | inl e ↦ rw (known_from-skip zone place (omega arith) e) later
            | inr m ↦ rw (known_from-next zone place (omega arith) m) (Contains-more _ _ _ later)
          ]
    ]

pub Contains-known_bounds : (zone : Bounds) (k : ℕ) → k < length zone → get_or zone k None ≢ any_at k →
    Contains (known_bounds zone) (record { place = k; bound = get_or zone k None })
unfolding known_bounds
Contains-known_bounds zone k h known = Contains-known_from (length zone) 0 zone (omega arith) k (omega arith) h known

-- a zone's known bounds from a place on, one place further
pub known_after-skip : (zone : Bounds) (place : ℕ) → place < length zone → get_or zone place None ≡ any_at place → known_after (place + 1) zone ≡ known_after place zone
unfolding known_after
known_after-skip zone place h e = sym (known_from-skip zone place h e)

pub known_after-next : (zone : Bounds) (place : ℕ) (b : PlacedBound) → place < length zone → b ≡ (record { place = place; bound = get_or zone place None }) →
    get_or zone place None ≢ any_at place → b ∷ known_after (place + 1) zone ≡ known_after place zone
unfolding known_after
known_after-next zone place b h is n = rw is (sym (known_from-next zone place h n))

pub known_after-end : (zone : Bounds) (place : ℕ) → length zone ≤ place → known_after place zone ≡ []
unfolding known_after
known_after-end zone place h = known_from-end zone place h

pub known_after-start : (zone : Bounds) → known_after 0 zone ≡ known_bounds zone
unfolding known_after known_bounds
known_after-start zone = refl

-- places at which nothing is known are passed over
pub known_after-pass : (zone : Bounds) (place n : ℕ) → place + n ≤ length zone → ((k : ℕ) → place ≤ k → k < place + n → get_or zone k None ≡ any_at k) →
    known_after (place + n) zone ≡ known_after place zone
known_after-pass zone place zero h none = ap (λ (k : ℕ). known_after k zone) (omega arith)
known_after-pass zone place (suc n) h none =
    ap (λ (k : ℕ). known_after k zone) (omega arith)
    ∙ known_after-skip zone (place + n) (omega arith) (none (place + n) (omega arith) (omega arith))
    ∙ known_after-pass zone place n (omega arith) (λ k l r. none k l (omega arith))

-- the known bounds of a zone, written into one in which nothing is known from their first place on
written-known_from : (n place : ℕ) (zone base : Bounds) → place + n ≡ length zone → length base ≡ length zone →
    ((k : ℕ) → k < place → get_or base k None ≡ get_or zone k None) →
    ((k : ℕ) → place ≤ k → k < length zone → get_or base k None ≡ any_at k) →
    (k : ℕ) → k < length zone → get_or (written (known_from place (drop place zone)) base) k None ≡ get_or zone k None
written-known_from zero place zone base size long same any k h = rw (known_from-end zone place (omega arith)) (same k (omega arith))
written-known_from (suc n) place zone base size long same any k h =
    elim (unknown-cases place (get_or zone place None)) [
      | inl e ↦ rw (known_from-skip zone place (omega arith) e)
          (written-known_from n (place + 1) zone base (omega arith) long
          (below_more (λ i. get_or base i None ≡ get_or zone i None) place same (any place (omega arith) (omega arith) ∙ sym e))
          (λ i l r. any i (omega arith) r) k h)
      | inr m ↦ rw (known_from-next zone place (omega arith) m)
          (written-known_from n (place + 1) zone (set base place (get_or zone place None)) (omega arith) (length-set base place (get_or zone place None) ∙ long)
          (each-set (λ i v. v ≡ get_or zone i None) base place (get_or zone place None) (omega arith) refl same)
          (λ i l r. get_or-set_other base place i (get_or zone place None) None (omega arith) ∙ any i (omega arith) r) k h)
    ]

pub written-known_bounds : (zone : Bounds) → length zone ≡ 1024 → written (known_bounds zone) any_zone ≡ zone
unfolding known_bounds any_zone
written-known_bounds zone size =
    written-is (known_from 0 zone) zone size
    (λ k h. written-known_from (length zone) 0 zone any_zone (omega arith) (length-zone_by any_bound ∙ sym size) (λ i l. absurd (omega arith))
    (λ i l r. get_or-any_zone i (omega arith)) k (omega arith))

-- a bound is told by its place and its number
pub same-bound : (b : PlacedBound) (place : ℕ) (bound : Option ℤ) → b.place ≡ place → b.bound ≡ bound → (record { place = place; bound = bound }) ≡ b
same-bound b place bound e f =
    ap (λ (p : ℕ). let r : PlacedBound = record { place = p; bound = bound } in r) (sym e)
    ∙ ap (λ (n : Option ℤ). let r : PlacedBound = record { place = b.place; bound = n } in r) (sym f)
