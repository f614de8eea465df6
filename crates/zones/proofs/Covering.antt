-- What a zone covers, by its known bounds.
use Rattle.std.proofs.Common.{◌≡◌, ◌<◌, ◌+◌, ◌*◌, ◌/◌, ◌%◌, ◌⊎◌, inl, inr, ℕ, ℤ, pos, List, get_or, length, Option, Some, None, Bool, true, false, All, arith, ◌∙◌, ap, sym, refl}
use Rattle.std.specs.List.{Any}
use Rattle.std.proofs.lemmas.Bool.Decides.{eqb_tells}
use Rattle.std.proofs.lemmas.List.{get_or_default}
use Rattle.std.proofs.lemmas.List.Elements.{All-get_or, All-contains}
use Rattle.zones.specs.Bound.{covers_bound}
use Rattle.zones.specs.Zone.{Bounds, bound, Covers}
use Rattle.zones.specs.Steps.{any_bound}
use Rattle.zones.specs.KnownBounds.{PlacedBound, known_bounds}
use Rattle.zones.specs.Written.{any_at}
use Rattle.zones.proofs.Order.{Covers-each, Covers-not}
use Rattle.zones.proofs.ReachLemmas.{any_bound-itself}
use Rattle.zones.proofs.Listing.{IsListed, All-known_bounds, Contains-known_bounds, unknown-cases}

-- a known bound covers what another zone has at its place
abbrev pub IsCovered : (strong : Bounds) → PlacedBound → Type 0
IsCovered strong b = covers_bound b.bound (get_or strong b.place None) ≡ true

-- of a name with itself: 0 covers what another zone has, or a bound is listed
abbrev pub IsItself : (strong : Bounds) (entries : List PlacedBound) → ℕ → Type 0
IsItself strong entries p = (covers_bound (Some (pos 0)) (get_or strong (33 * p) None) ≡ true) ⊎ Any (λ b. b.place ≡ 33 * p) entries

any_at-diagonal : (p : ℕ) → p < 32 → any_at (33 * p) ≡ Some (pos 0)
any_at-diagonal p h = elim (eqb_tells (33 * p / 32) (33 * p % 32)) [ inl t ↦ rw t.0 refl | inr t ↦ absurd (t.1 (omega arith)) ]

any_at-beside : (k : ℕ) → (k / 32 ≡ k % 32 → ⊥) → any_at k ≡ None
any_at-beside k n = elim (eqb_tells (k / 32) (k % 32)) [ inl t ↦ absurd (n t.1) | inr t ↦ rw t.0 refl ]

-- nothing is listed where nothing is known
unlisted : (weak : Bounds) (k : ℕ) → get_or weak k None ≡ any_at k → Any (λ b. b.place ≡ k) (known_bounds weak) → ⊥
unlisted weak k e w =
    let listed = All-get_or (IsListed weak) (known_bounds weak) w.0 w.1 w.2 (All-known_bounds weak) in
    let at : (get_or (known_bounds weak) w.0 w.1).place ≡ k = ap (λ (b : PlacedBound). b.place) w.3 ∙ w.4 in
    listed.known (listed.at ∙ ap (λ (i : ℕ). get_or weak i None) at ∙ e ∙ ap any_at (sym at))

diagonal-covered : (weak strong : Bounds) (k : ℕ) → k / 32 ≡ k % 32 → k < 1024 → get_or weak k None ≡ any_at k →
    IsItself strong (known_bounds weak) (k / 32) → covers_bound (get_or weak k None) (get_or strong k None) ≡ true
diagonal-covered weak strong k on h e itself =
    let at : 33 * (k / 32) ≡ k = omega arith in
    let zero : get_or weak k None ≡ Some (pos 0) = e ∙ ap any_at (sym at) ∙ any_at-diagonal (k / 32) (omega arith) in
    elim itself [
      | inl c ↦ rw zero (rw at at c)
      | inr w ↦ absurd (unlisted weak k e (rw at at w))
    ]

pub Covers-entries : (weak strong : Bounds) (entries : List PlacedBound) → length weak ≡ 1024 → known_bounds weak ≡ entries → All (IsCovered strong) entries →
    ((p : ℕ) → p < 32 → IsItself strong entries p) → Covers weak strong
Covers-entries weak strong entries size is covered itself =
    let each : All (IsCovered strong) (known_bounds weak) = rw is covered in
    Covers-each weak strong
    (λ k h. elim (unknown-cases k (get_or weak k None)) [
      | inl e ↦ elim (eqb_tells (k / 32) (k % 32)) [
        | inl t ↦ diagonal-covered weak strong k t.1 h e (rw is (itself (k / 32) (omega arith)))
        | inr t ↦ rw (e, any_at-beside k t.1) refl
      ]
      | inr n ↦ All-contains (IsCovered strong) (known_bounds weak) _ each (Contains-known_bounds weak k (omega arith) n)
    ])

-- a bound that covers too little is enough to refuse
pub Covers-entry_not : (weak strong : Bounds) (entries : List PlacedBound) (i : ℕ) (b : PlacedBound) → length weak ≡ 1024 → known_bounds weak ≡ entries → i < length entries →
    b ≡ get_or entries i b → covers_bound b.bound (get_or strong b.place None) ≡ false → Covers weak strong → ⊥
Covers-entry_not weak strong entries i b size is h at not covers =
    let listed : IsListed weak b = rw (at, ← is) (All-get_or (IsListed weak) (known_bounds weak) i b (rw is h) (All-known_bounds weak)) in
    Covers-not weak strong b.place (omega (arith, listed.placed)) (rw (← listed.at) not) covers

pub Covers-itself_not : (weak strong : Bounds) (entries : List PlacedBound) (p : ℕ) → p < 32 → length weak ≡ 1024 → known_bounds weak ≡ entries →
    (Any (λ b. b.place ≡ 33 * p) entries → ⊥) → covers_bound (Some (pos 0)) (get_or strong (33 * p) None) ≡ false → Covers weak strong → ⊥
Covers-itself_not weak strong entries p h size is none not covers =
    elim (unknown-cases (33 * p) (get_or weak (33 * p) None)) [
      | inl e ↦ Covers-not weak strong (33 * p) (omega arith) (rw (e, any_at-diagonal p h) not) covers
      | inr n ↦ let w = Contains-known_bounds weak (33 * p) (omega arith) n in none (rw (← is) (w.0, _, w.1, w.2, refl))
    ]

-- 0 covers what is known of a name with itself where nothing is
pub itself-unknown : (strong : Bounds) (entries : List PlacedBound) (p : ℕ) → bound strong p p ≡ any_bound p p → IsItself strong entries p
unfolding bound
itself-unknown strong entries p e =
    let at : 33 * p ≡ 32 * p + p = omega arith in
    inl (rw (at, e ∙ any_bound-itself p) refl)

-- what a test of a known bound says
pub tested : (strong : Bounds) (b : PlacedBound) (place : ℕ) (bound d : Option ℤ) (r : Bool) → bound ≡ b.bound → place ≡ b.place → place < length strong →
    r ≡ covers_bound bound (get_or strong place d) → covers_bound b.bound (get_or strong b.place None) ≡ r
tested strong b place bound d r is at h test =
    rw (← is, ← at) (ap (covers_bound bound) (get_or_default strong place None d h) ∙ sym test)
