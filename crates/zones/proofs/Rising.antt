-- Bounds that rise in their places: the zone that they give has them as its known ones.
use Rattle.std.proofs.Common.{◌≡◌, ◌≢◌, ◌<◌, ◌≤◌, ◌+◌, ◌*◌, ◌/◌, ◌%◌, inl, inr, ℕ, zero, suc, ℤ, List, [], ◌∷◌, get_or, set, drop, length, Option, None, All, arith, ◌∙◌, ap, refl, sym, add-one, drop-cons, length-set, get_or-set_other, get_or-set_same}
use Rattle.std.proofs.lemmas.Bool.Decides.{eqb_tells}
use Rattle.std.proofs.lemmas.List.Elements.{All-nil, All-cons, All-head, All-tail, All-weaker}
use Rattle.zones.specs.Bound.{IsKept}
use Rattle.zones.specs.Limits.{IsZone}
use Rattle.zones.specs.Zone.{Bounds, bound}
use Rattle.zones.specs.Reach.{AreUnknown}
use Rattle.zones.specs.Steps.{any_zone, any_bound}
use Rattle.zones.specs.KnownBounds.{PlacedBound, known_from, known_bounds}
use Rattle.zones.specs.Written.{written, any_at, Rise, IsWithin, IsKnownBound, AreKnownBounds, IsKeptZone}
use Rattle.zones.proofs.Kept.{IsZone-any_zone}
use Rattle.zones.proofs.Keeping.{length-written}
use Rattle.zones.proofs.Places.{get_or-any_zone, length-any_zone, row-place, column-place}
use Rattle.zones.proofs.Listing.{IsListed, All-known_bounds, unknown-cases, known_from-skip, known_from-next, known_from-end, same-bound}

-- from a place on they rise from an earlier one
Rise-earlier : (i j : ℕ) (entries : List PlacedBound) → i ≤ j → Rise j entries → Rise i entries
Rise-earlier i j [] h r = tt
Rise-earlier i j (b ∷ rest) h r = (omega (arith, r.0), r.1)

-- none of them stands before the place from which they rise
Rise-none : (i j : ℕ) (entries : List PlacedBound) → i < j → Rise j entries → All (λ b. b.place ≢ i) entries
Rise-none i j [] h r = All-nil (λ b. b.place ≢ i)
Rise-none i j (b ∷ rest) h r = All-cons (λ b. b.place ≢ i) b rest (omega (arith, r.0)) (Rise-none i (suc b.place) rest (omega (arith, r.0)) r.1)

-- A ZONE'S KNOWN BOUNDS RISE

Rise-known_from : (n place : ℕ) (zone : Bounds) → place + n ≡ length zone → Rise place (known_from place (drop place zone))
Rise-known_from zero place zone size = rw (known_from-end zone place (omega arith)) tt
Rise-known_from (suc n) place zone size =
    let later = Rise-known_from n (place + 1) zone (omega arith) in
    elim (unknown-cases place (get_or zone place None)) [
      | inl e ↦ rw (known_from-skip zone place (omega arith) e) (Rise-earlier place (place + 1) _ (omega arith) later)
      | inr k ↦ rw (known_from-next zone place (omega arith) k) (omega arith, Rise-earlier (suc place) (place + 1) _ (omega arith) later)
    ]

pub known-rise : (zone : Bounds) (entries : List PlacedBound) → known_bounds zone ≡ entries → Rise 0 entries
unfolding known_bounds
known-rise zone entries is = rw (← is) (Rise-known_from (length zone) 0 zone (omega arith))

-- WRITTEN BOUNDS

-- what is written elsewhere leaves a place as it is
written-elsewhere : (entries : List PlacedBound) (base : Bounds) (k : ℕ) → All (λ b. b.place ≢ k) entries → get_or (written entries base) k None ≡ get_or base k None
written-elsewhere [] base k none = refl
written-elsewhere (b ∷ rest) base k none =
    written-elsewhere rest (set base b.place b.bound) k (All-tail (λ b. b.place ≢ k) b rest none)
    ∙ get_or-set_other base b.place k b.bound None (λ e. All-head (λ b. b.place ≢ k) b rest none (sym e))

-- each bound that is written stands there
Stands : (table : Bounds) → PlacedBound → Type 0
Stands table b = get_or table b.place None ≡ b.bound

All-Stands : (from : ℕ) (entries : List PlacedBound) (base : Bounds) → length base ≡ 1024 → Rise from entries → All IsKnownBound entries → All (Stands (written entries base)) entries
unfolding Stands
All-Stands from [] base size rise each = All-nil (Stands base)
All-Stands from (b ∷ rest) base size rise each =
    All-cons (Stands (written (b ∷ rest) base)) b rest
    (written-elsewhere rest (set base b.place b.bound) b.place (Rise-none b.place (suc b.place) rest (omega arith) rise.1)
    ∙ get_or-set_same base b.place b.bound None (omega (arith, (All-head IsKnownBound b rest each).placed)))
    (All-Stands (suc b.place) rest (set base b.place b.bound) (length-set base b.place b.bound ∙ size) rise.1 (All-tail IsKnownBound b rest each))

-- a table that has these bounds from a place on, and nothing else that is known, has them as its known ones
known_from-Stands : (n place : ℕ) (entries : List PlacedBound) (table : Bounds) → place + n ≡ 1024 → length table ≡ 1024 → Rise place entries → All IsKnownBound entries →
    All (Stands table) entries → ((k : ℕ) → place ≤ k → k < 1024 → All (λ b. b.place ≢ k) entries → get_or table k None ≡ any_at k) →
    known_from place (drop place table) ≡ entries
unfolding Stands
known_from-Stands zero place [] table at size rise each stands rest = known_from-end table place (omega arith)
known_from-Stands zero place (b ∷ later) table at size rise each stands rest = absurd (omega (arith, rise.0, (All-head IsKnownBound b later each).placed))
known_from-Stands (suc n) place [] table at size rise each stands rest =
    known_from-skip table place (omega arith) (rest place (omega arith) (omega arith) (All-nil (λ b. b.place ≢ place)))
    ∙ known_from-Stands n (place + 1) [] table (omega arith) size tt each stands (λ k l h none. rest k (omega arith) h none)
known_from-Stands (suc n) place (b ∷ later) table at size rise each stands rest =
    let known = All-head IsKnownBound b later each in
    elim (eqb_tells b.place place) [
      | inl t ↦
          let here : get_or table place None ≡ b.bound = ap (λ (k : ℕ). get_or table k None) (sym t.1) ∙ All-head (Stands table) b later stands in
          known_from-next table place (omega arith) (λ e. known.known (sym here ∙ e ∙ ap any_at (sym t.1)))
          ∙ ap (λ (v : Option ℤ). (record { place = place; bound = v }) ∷ known_from (place + 1) (drop (place + 1) table)) here
          ∙ ap (λ (r : PlacedBound). r ∷ known_from (place + 1) (drop (place + 1) table)) (same-bound b place b.bound t.1 refl)
          ∙ ap (λ (rs : List PlacedBound). b ∷ rs) (known_from-Stands n (place + 1) later table (omega arith) size
          (Rise-earlier (place + 1) (suc b.place) later (omega (arith, t.1)) rise.1) (All-tail IsKnownBound b later each) (All-tail (Stands table) b later stands)
          (λ k l h none. rest k (omega arith) h (All-cons (λ b. b.place ≢ k) b later (omega (arith, t.1)) none)))
      | inr t ↦
          known_from-skip table place (omega arith) (rest place (omega arith) (omega arith) (All-cons (λ b. b.place ≢ place) b later t.1 (Rise-none place (suc b.place) later (omega (arith, rise.0)) rise.1)))
          ∙ known_from-Stands n (place + 1) (b ∷ later) table (omega arith) size (omega (arith, rise.0, t.1), rise.1) each stands (λ k l h none. rest k (omega arith) h none)
    ]

pub known_bounds-written : (entries : List PlacedBound) → AreKnownBounds entries → known_bounds (written entries any_zone) ≡ entries
unfolding known_bounds
known_bounds-written entries h =
    known_from-Stands 1024 0 entries (written entries any_zone) (omega arith) (length-written entries any_zone ∙ length-any_zone) h.rise h.each
    (All-Stands 0 entries any_zone length-any_zone h.rise h.each)
    (λ k l below none. written-elsewhere entries any_zone k none ∙ get_or-any_zone k below)

IsZone-set : (table : Bounds) (place : ℕ) (b : Option ℤ) → place < 1024 → IsKept b → IsZone table → IsZone (set table place b)
IsZone-set table place b h kept zone = record {
  size = length-set table place b ∙ zone.size;
  kept = λ k. elim (eqb_tells k place) [
    | inl t ↦ rw (t.1, get_or-set_same table place b None (omega (arith, zone.size))) kept
    | inr t ↦ rw (get_or-set_other table place k b None t.1) (zone.kept k)
  ];
}

IsZone-written : (entries : List PlacedBound) (table : Bounds) → All IsKnownBound entries → All (λ b. IsKept b.bound) entries → IsZone table → IsZone (written entries table)
IsZone-written [] table each kept zone = zone
IsZone-written (b ∷ rest) table each kept zone =
    IsZone-written rest (set table b.place b.bound) (All-tail IsKnownBound b rest each) (All-tail (λ b. IsKept b.bound) b rest kept)
    (IsZone-set table b.place b.bound (All-head IsKnownBound b rest each).placed (All-head (λ b. IsKept b.bound) b rest kept) zone)

pub IsKeptZone-known : (entries : List PlacedBound) → AreKnownBounds entries → All (λ b. IsKept b.bound) entries → IsKeptZone entries
IsKeptZone-known entries h kept = record {
  zone = IsZone-written entries any_zone h.each kept IsZone-any_zone;
  known = known_bounds-written entries h;
}

-- what a table has as its known bounds it can have
pub AreKnownBounds-known : (zone : Bounds) (entries : List PlacedBound) → length zone ≡ 1024 → known_bounds zone ≡ entries → AreKnownBounds entries
AreKnownBounds-known zone entries size is = record {
  rise = known-rise zone entries is;
  each = rw (← is) (All-weaker (IsListed zone) IsKnownBound (λ b l. record { placed = omega (arith, l.placed); known = l.known }) (known_bounds zone) (All-known_bounds zone));
}

-- one bound further: whether the rest rises
pub Rise-next : (from i : ℕ) (entries : List PlacedBound) (b : PlacedBound) → i < length entries → b ≡ get_or entries i b → Rise from (drop i entries) →
    (from ≤ b.place) × Rise (b.place + 1) (drop (i + 1) entries)
Rise-next from i entries b h at r = let s = rw (drop-cons entries i b h, ← at) at r in (s.0, rw (add-one b.place, add-one i) s.1)

pub Rise-before : (from i : ℕ) (entries : List PlacedBound) (b : PlacedBound) → i < length entries → b ≡ get_or entries i b → from ≤ b.place →
    Rise (b.place + 1) (drop (i + 1) entries) → Rise from (drop i entries)
Rise-before from i entries b h at low r = rw (drop-cons entries i b h, ← at) (low, rw (add-one b.place, add-one i) at r)

-- beyond the names of what is written nothing is known
unwritten : (entries : List PlacedBound) (reach p q : ℕ) → p < 32 → q < 32 → All (IsWithin reach) entries → (p < reach → q < reach → ⊥) →
    bound (written entries any_zone) p q ≡ any_bound p q
unfolding bound
unwritten entries reach p q hp hq within beyond =
    written-elsewhere entries any_zone (32 * p + q)
    (All-weaker (IsWithin reach) (λ b. b.place ≢ 32 * p + q)
    (λ b w e. beyond (rw (ap (λ (k : ℕ). k / 32) e ∙ row-place p q hq) at w.0) (rw (ap (λ (k : ℕ). k % 32) e ∙ column-place p q hq) at w.1)) entries within)
    ∙ get_or-any_zone (32 * p + q) (omega arith)
    ∙ ap (λ (r : ℕ). any_bound r ((32 * p + q) % 32)) (row-place p q hq) ∙ ap (any_bound p) (column-place p q hq)

pub AreUnknown-written : (entries : List PlacedBound) (reach : ℕ) → All (IsWithin reach) entries → AreUnknown (written entries any_zone) reach
AreUnknown-written entries reach within = record {
  row = λ p q high hp hq. unwritten entries reach p q hp hq within (λ h k. omega (arith, h, high));
  column = λ p q high hp hq. unwritten entries reach p q hp hq within (λ h k. omega (arith, k, high));
}
