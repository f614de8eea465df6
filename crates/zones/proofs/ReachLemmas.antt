-- How far the known names of a zone reach.
use Rattle.std.proofs.Common.{◌≡◌, ◌≢◌, ◌<◌, ◌≤◌, ◌+◌, ◌-◌, ◌*◌, ◌/◌, ◌%◌, ℕ, zero, suc, ℤ, true, false, ◌||◌, get_or, pos, Option, Some, None, arith, ◌∙◌, ap, refl, sym, add-one, inl, inr}
use Rattle.std.proofs.lemmas.Bool.{cases_lt, not-false, or_from, or_parts}
use Rattle.std.proofs.lemmas.Bool.Decides.{eqb_tells}
use Rattle.zones.specs.Bound.{raise, lower, greater_of, covers_bound}
use Rattle.zones.specs.Zone.{Bounds, bound}
use Rattle.zones.specs.Steps.{any_bound, any_zone, join_bound, widening_bound}
use Rattle.zones.specs.Reach.{AreUnknown, is_known_pair, is_known_with, reach_below, reach_of}
use Rattle.zones.specs.Written.{any_at}
use Rattle.zones.proofs.Listing.{option_eq-true, option_eq-itself}
use Rattle.zones.proofs.Places.{bound-zone_by}

pub any_bound-beside : (p q : ℕ) → p ≢ q → any_bound p q ≡ None
any_bound-beside p q n = elim (eqb_tells p q) [ inl t ↦ absurd (n t.1) | inr t ↦ rw t.0 refl ]

pub any_bound-itself : (p : ℕ) → any_bound p p ≡ Some (pos 0)
any_bound-itself p = elim (eqb_tells p p) [ inl t ↦ rw t.0 refl | inr t ↦ absurd (t.1 refl) ]

-- PAIRS

pair-unknown : (zone : Bounds) (p q : ℕ) → bound zone p q ≡ any_bound p q → is_known_pair zone p q ≡ false
pair-unknown zone p q e = rw (e, option_eq-itself (any_bound p q)) refl

unknown-pair : (zone : Bounds) (p q : ℕ) → is_known_pair zone p q ≡ false → bound zone p q ≡ any_bound p q
unknown-pair zone p q h = option_eq-true (bound zone p q) (any_bound p q) (not-false _ h)

-- A NAME WITH THE FIRST ONES

pub known_with-none : (zone : Bounds) (p : ℕ) → is_known_with zone p 0 ≡ false
unfolding is_known_with
known_with-none zone p = refl

pub known_with-unknown : (zone : Bounds) (p q : ℕ) → is_known_with zone p q ≡ false → bound zone p q ≡ any_bound p q → bound zone q p ≡ any_bound q p →
    is_known_with zone p (q + 1) ≡ false
unfolding is_known_with
known_with-unknown zone p q so_far e f =
    rw (add-one q) (or_from (is_known_with zone p q) (is_known_pair zone p q || is_known_pair zone q p) so_far
    (or_from (is_known_pair zone p q) (is_known_pair zone q p) (pair-unknown zone p q e) (pair-unknown zone q p f)))

-- nothing is known of a name and the first ones where no bound says something
unknown-known_with : (zone : Bounds) (p n : ℕ) → ((q : ℕ) → q < n → bound zone p q ≡ any_bound p q) → ((q : ℕ) → q < n → bound zone q p ≡ any_bound q p) →
    is_known_with zone p n ≡ false
unfolding is_known_with
unknown-known_with zone p zero row column = refl
unknown-known_with zone p (suc n) row column =
    or_from (is_known_with zone p n) (is_known_pair zone p n || is_known_pair zone n p)
    (unknown-known_with zone p n (λ q h. row q (omega arith)) (λ q h. column q (omega arith)))
    (or_from (is_known_pair zone p n) (is_known_pair zone n p) (pair-unknown zone p n (row n (omega arith)))
    (pair-unknown zone n p (column n (omega arith))))

known_with-row : (zone : Bounds) (p n : ℕ) → is_known_with zone p n ≡ false → (q : ℕ) → q < n → bound zone p q ≡ any_bound p q
unfolding is_known_with
known_with-row zone p zero none q h = absurd (omega arith)
known_with-row zone p (suc n) none q h =
    elim (eqb_tells q n) [
      | inl t ↦ rw t.1 (unknown-pair zone p n
          (or_parts (is_known_pair zone p n) (is_known_pair zone n p)
          (or_parts (is_known_with zone p n) (is_known_pair zone p n || is_known_pair zone n p) none).1).0)
      | inr t ↦ known_with-row zone p n (or_parts (is_known_with zone p n) (is_known_pair zone p n || is_known_pair zone n p) none).0 q
          (omega (arith, t.1))
    ]

known_with-column : (zone : Bounds) (p n : ℕ) → is_known_with zone p n ≡ false → (q : ℕ) → q < n → bound zone q p ≡ any_bound q p
unfolding is_known_with
known_with-column zone p zero none q h = absurd (omega arith)
known_with-column zone p (suc n) none q h =
    elim (eqb_tells q n) [
      | inl t ↦ rw t.1 (unknown-pair zone n p
          (or_parts (is_known_pair zone p n) (is_known_pair zone n p)
          (or_parts (is_known_with zone p n) (is_known_pair zone p n || is_known_pair zone n p) none).1).1)
      | inr t ↦ known_with-column zone p n
          (or_parts (is_known_with zone p n) (is_known_pair zone p n || is_known_pair zone n p) none).0 q (omega (arith, t.1))
    ]

-- a bound that says something is enough
pub known_with-known : (zone : Bounds) (p q n : ℕ) → q < n → (bound zone p q ≡ any_bound p q → bound zone q p ≡ any_bound q p → ⊥) → is_known_with zone p n ≡ true
known_with-known zone p q n h known =
    (elim (is_known_with zone p n) as (λ t. is_known_with zone p n ≡ t → t ≡ true) [
      | true ↦ λ e. refl
      | false ↦ λ e. absurd (known (known_with-row zone p n e q h) (known_with-column zone p n e q h))
    ]) refl

-- THE REACH

pub AreUnknown-more : (zone : Bounds) (n m : ℕ) → n ≤ m → AreUnknown zone n → AreUnknown zone m
AreUnknown-more zone n m h unknown = record {
  row = λ p q l hp hq. unknown.row p q (omega arith) hp hq;
  column = λ p q l hp hq. unknown.column p q (omega arith) hp hq;
}

AreUnknown-all : (zone : Bounds) → AreUnknown zone 32
AreUnknown-all zone = record { row = λ p q l hp hq. absurd (omega arith); column = λ p q l hp hq. absurd (omega arith) }

-- one name less, of which nothing is known either
AreUnknown-less : (zone : Bounds) (n : ℕ) → is_known_with zone n (suc n) ≡ false → AreUnknown zone (suc n) → AreUnknown zone n
AreUnknown-less zone n none unknown = record {
  row = λ p q l hp hq. elim (eqb_tells p n) [
    | inl t ↦ elim (cases_lt q (suc n)) [
      | inl low ↦ rw t.1 (known_with-row zone n (suc n) none q low)
      | inr high ↦ unknown.column p q high hp hq
    ]
    | inr t ↦ unknown.row p q (omega (arith, t.1)) hp hq
  ];
  column = λ p q l hp hq. elim (eqb_tells q n) [
    | inl t ↦ elim (cases_lt p (suc n)) [
      | inl low ↦ rw t.1 (known_with-column zone n (suc n) none p low)
      | inr high ↦ unknown.row p q high hp hq
    ]
    | inr t ↦ unknown.column p q (omega (arith, t.1)) hp hq
  ];
}

pub reach_below-zero : (zone : Bounds) → reach_below zone 0 ≡ 0
unfolding reach_below
reach_below-zero zone = refl

pub reach_below-known : (zone : Bounds) (n : ℕ) → is_known_with zone n (suc n) ≡ true → reach_below zone (suc n) ≡ suc n
unfolding reach_below
reach_below-known zone n known = rw known refl

pub reach_below-unknown : (zone : Bounds) (n : ℕ) → is_known_with zone n (suc n) ≡ false → reach_below zone (suc n) ≡ reach_below zone n
unfolding reach_below
reach_below-unknown zone n none = rw none refl

AreUnknown-reach_below : (zone : Bounds) (n : ℕ) → AreUnknown zone n → AreUnknown zone (reach_below zone n)
AreUnknown-reach_below zone zero unknown = rw (reach_below-zero zone) unknown
AreUnknown-reach_below zone (suc n) unknown =
    (elim (is_known_with zone n (suc n)) as (λ t. is_known_with zone n (suc n) ≡ t → AreUnknown zone (reach_below zone (suc n))) [
      | true ↦ λ e. rw (reach_below-known zone n e) unknown
      | false ↦ λ e. rw (reach_below-unknown zone n e) (AreUnknown-reach_below zone n (AreUnknown-less zone n e unknown))
    ]) refl

reach_below-most : (zone : Bounds) (n : ℕ) → reach_below zone n ≤ n
reach_below-most zone zero = rw (reach_below-zero zone) (omega arith)
reach_below-most zone (suc n) =
    (elim (is_known_with zone n (suc n)) as (λ t. is_known_with zone n (suc n) ≡ t → reach_below zone (suc n) ≤ suc n) [
      | true ↦ λ e. rw (reach_below-known zone n e) (omega arith)
      | false ↦ λ e. rw (reach_below-unknown zone n e) (let less = reach_below-most zone n in omega arith)
    ]) refl

-- beyond the names of which something is known there is nothing to find
reach_below-beyond : (zone : Bounds) (d m : ℕ) → m + d ≤ 32 → AreUnknown zone m → reach_below zone (m + d) ≡ reach_below zone m
reach_below-beyond zone zero m h unknown = ap (reach_below zone) (omega arith)
reach_below-beyond zone (suc d) m h unknown =
    ap (reach_below zone) (omega arith)
    ∙ reach_below-unknown zone (m + d)
    (unknown-known_with zone (m + d) (suc (m + d)) (λ q l. unknown.row (m + d) q (omega arith) (omega arith) (omega arith)) (λ q l. unknown.column q (m + d) (omega arith) (omega arith) (omega arith)))
    ∙ reach_below-beyond zone d m (omega arith) unknown

pub reach_of-within : (zone : Bounds) (m : ℕ) → m ≤ 32 → AreUnknown zone m → reach_of zone ≡ reach_below zone m
reach_of-within zone m h unknown = ap (reach_below zone) (omega arith) ∙ reach_below-beyond zone (32 - m) m (omega arith) unknown

pub AreUnknown-reach : (zone : Bounds) (reach : ℕ) → reach ≡ reach_of zone → AreUnknown zone reach
AreUnknown-reach zone reach is = rw is (AreUnknown-reach_below zone 32 (AreUnknown-all zone))

pub reach-in_range : (zone : Bounds) (reach : ℕ) → reach ≡ reach_of zone → reach ≤ 32
reach-in_range zone reach is = rw is (reach_below-most zone 32)

-- beyond the reach of a zone, and of names
pub AreUnknown-beyond : (zone : Bounds) (reach m : ℕ) → reach ≡ reach_of zone → reach ≤ m → AreUnknown zone m
AreUnknown-beyond zone reach m is h = AreUnknown-more zone reach m h (AreUnknown-reach zone reach is)

AreUnknown-any_zone : AreUnknown any_zone 0
unfolding any_zone
AreUnknown-any_zone = record { row = λ p q l hp hq. bound-zone_by any_bound p q hp hq; column = λ p q l hp hq. bound-zone_by any_bound p q hp hq }

pub reach_of-any_zone : reach_of any_zone ≡ 0
reach_of-any_zone = reach_of-within any_zone 0 (omega arith) AreUnknown-any_zone ∙ reach_below-zero any_zone

-- places of which nothing is known
pub unknown-place : (zone : Bounds) (p q k : ℕ) → q < 32 → k ≡ 32 * p + q → bound zone p q ≡ any_bound p q → get_or zone k None ≡ any_at k
unfolding bound
unknown-place zone p q k h at e =
    let row : k / 32 ≡ p = omega arith in
    let column : k % 32 ≡ q = omega arith in
    ap (λ (i : ℕ). get_or zone i None) at ∙ e ∙ ap (λ (r : ℕ). any_bound r q) (sym row) ∙ ap (any_bound (k / 32)) (sym column)

pub any_bound-symmetric : (p q : ℕ) → any_bound p q ≡ any_bound q p
any_bound-symmetric p q = elim (eqb_tells p q) [
  | inl t ↦ rw t.1 refl
  | inr t ↦ any_bound-beside p q t.1 ∙ sym (any_bound-beside q p (λ e. t.1 (sym e)))
]

-- ANY RAISED OR LOWERED IS ANY

pub lower-unknown : (zone : Bounds) (p x y : ℕ) (low : Option ℤ) → bound zone p x ≡ any_bound p x → bound zone p y ≡ any_bound p y → p ≢ x → p ≢ y →
    bound zone p x ≡ lower (bound zone p y) low
lower-unknown zone p x y low e f nx ny = rw (e ∙ any_bound-beside p x nx, f ∙ any_bound-beside p y ny) refl

pub raise-unknown : (zone : Bounds) (x y q : ℕ) (high : Option ℤ) → bound zone x q ≡ any_bound x q → bound zone y q ≡ any_bound y q → x ≢ q → y ≢ q →
    bound zone x q ≡ raise (bound zone y q) high
raise-unknown zone x y q high e f nx ny = rw (e ∙ any_bound-beside x q nx, f ∙ any_bound-beside y q ny) refl

-- WHAT IS KNOWN OF NEITHER OF TWO ZONES

greater_of-any_bound : (p q : ℕ) → greater_of (any_bound p q) (any_bound p q) ≡ any_bound p q
greater_of-any_bound p q = elim (eqb_tells p q) [ inl t ↦ rw t.0 refl | inr t ↦ rw t.0 refl ]

pub join-unknown : (one other : Bounds) (p q : ℕ) → bound one p q ≡ any_bound p q → bound other p q ≡ any_bound p q → join_bound one other p q ≡ any_bound p q
unfolding join_bound
join-unknown one other p q e f = rw (e, f) (greater_of-any_bound p q)

pub widening-unknown : (old new : Bounds) (p q : ℕ) → bound old p q ≡ any_bound p q → bound new p q ≡ any_bound p q → widening_bound old new p q ≡ any_bound p q
unfolding widening_bound
widening-unknown old new p q e f = rw (e, f) (elim (eqb_tells p q) [ inl t ↦ rw t.0 refl | inr t ↦ rw t.0 refl ])

covers_bound-any_bound : (p q : ℕ) → covers_bound (any_bound p q) (any_bound p q) ≡ true
covers_bound-any_bound p q = elim (eqb_tells p q) [ inl t ↦ rw t.0 refl | inr t ↦ rw t.0 refl ]

pub covers-unknown : (weak strong : Bounds) (p q : ℕ) → bound weak p q ≡ any_bound p q → bound strong p q ≡ any_bound p q → covers_bound (bound weak p q) (bound strong p q) ≡ true
covers-unknown weak strong p q e f = rw (e, f) (covers_bound-any_bound p q)

-- the places of rows of which nothing is known, and those of a row after the names of which something is
pub unknown-rows : (zone : Bounds) (p n : ℕ) → ((a b : ℕ) → p ≤ a → a < 32 → b < 32 → bound zone a b ≡ any_bound a b) → 32 * p + n ≡ 1024 →
    (k : ℕ) → 32 * p ≤ k → k < 32 * p + n → get_or zone k None ≡ any_at k
unknown-rows zone p n unknown size k low high =
    unknown-place zone (k / 32) (k % 32) k (omega arith) (omega arith) (unknown (k / 32) (k % 32) (omega arith) (omega arith) (omega arith))

pub unknown-back : (zone : Bounds) (p n : ℕ) → n ≤ 32 → ((q : ℕ) → n ≤ q → q < 32 → bound zone p q ≡ any_bound p q) →
    (k : ℕ) → 32 * p + n ≤ k → k < 32 * p + n + (32 - n) → get_or zone k None ≡ any_at k
unknown-back zone p n h unknown k low high =
    unknown-place zone p (k - 32 * p) k (omega arith) (omega arith) (unknown (k - 32 * p) (omega arith) (omega arith))
