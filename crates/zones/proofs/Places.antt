-- Bounds in a table: the pair (p, q) lies at 32 * p + q.
use Rattle.std.proofs.Common.{◌≡◌, ◌≢◌, ◌<◌, ◌/◌, ◌%◌, ◌+◌, ◌*◌, ℕ, List, get_or, set, length, Option, None, ℤ, arith, ◌∙◌, ap, sym, below_more, get_or-set_other, get_or-set_same}
use Rattle.std.proofs.lemmas.List.FromFn.{fill_by_all, get_or-map-range_with_len, length-map-range_with_len}
use Rattle.zones.specs.Zone.{Bounds, bound, zone_by}
use Rattle.zones.specs.Steps.{any_zone, any_bound}

-- a place is its row and its column
pub place-row_column : (place : ℕ) → 32 * (place / 32) + place % 32 ≡ place
place-row_column place = omega arith

pub row-place : (p q : ℕ) → q < 32 → (32 * p + q) / 32 ≡ p
row-place p q h = omega arith

pub column-place : (p q : ℕ) → q < 32 → (32 * p + q) % 32 ≡ q
column-place p q h = omega arith

-- the bound of a zone that is made by a formula is the formula
pub bound-zone_by : (f : ℕ → ℕ → Option ℤ) (p q : ℕ) → p < 32 → q < 32 → bound (zone_by f) p q ≡ f p q
unfolding bound zone_by
bound-zone_by f p q hp hq =
    let at : 0 + (32 * p + q) ≡ 32 * p + q = omega arith in
    get_or-map-range_with_len (λ k. f (k / 32) (k % 32)) 0 1024 (32 * p + q) (32 * p + q) None (omega arith) at
    ∙ ap (λ i. f i ((32 * p + q) % 32)) (row-place p q hq) ∙ ap (f p) (column-place p q hq)

-- nothing is known in a zone of which nothing is known
pub get_or-any_zone : (k : ℕ) → k < 1024 → get_or any_zone k None ≡ any_bound (k / 32) (k % 32)
unfolding any_zone zone_by
get_or-any_zone k h = get_or-map-range_with_len (λ i. any_bound (i / 32) (i % 32)) 0 1024 k k None h (omega arith)

pub length-zone_by : (f : ℕ → ℕ → Option ℤ) → length (zone_by f) ≡ 1024
unfolding zone_by
length-zone_by f = length-map-range_with_len (λ k. f (k / 32) (k % 32)) 0 1024

pub length-any_zone : length any_zone ≡ 1024
unfolding any_zone
length-any_zone = length-zone_by any_bound

-- a table that has a formula's bounds is the formula's zone
pub zone_by-each : (f : ℕ → ℕ → Option ℤ) (zone : Bounds) → length zone ≡ 1024 →
    ((p q : ℕ) → p < 32 → q < 32 → bound zone p q ≡ f p q) → zone ≡ zone_by f
unfolding bound zone_by
zone_by-each f zone size each =
    fill_by_all (λ k. f (k / 32) (k % 32)) zone 1024 None size
    (λ k l. ap (λ i. get_or zone i None) (sym (place-row_column k)) ∙ each (k / 32) (k % 32) (omega arith) (omega arith))

-- one more bound of a table that is being filled
pub each-set : (P : ℕ → Option ℤ → Type 0) (table : List (Option ℤ)) (i : ℕ) (v : Option ℤ) → i < length table → P i v →
    ((k : ℕ) → k < i → P k (get_or table k None)) → (k : ℕ) → k < i + 1 → P k (get_or (set table i v) k None)
each-set P table i v h here below =
    below_more (λ k. P k (get_or (set table i v) k None)) i
    (λ k l. let ne : k ≢ i = omega arith in rw get_or-set_other (below k l))
    (rw get_or-set_same here)

-- what is true at each place is true of each pair
pub each-bound : (P : ℕ → ℕ → Option ℤ → Type 0) (table : List (Option ℤ)) →
    ((k : ℕ) → k < 1024 → P (k / 32) (k % 32) (get_or table k None)) → (p q : ℕ) → p < 32 → q < 32 → P p q (bound table p q)
unfolding bound
each-bound P table h p q hp hq =
    let at : P ((32 * p + q) / 32) ((32 * p + q) % 32) (get_or table (32 * p + q) None) = h (32 * p + q) (omega arith) in
    rw (row-place p q hq, column-place p q hq) at at
