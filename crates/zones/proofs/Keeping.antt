-- Entries written into a zone: what one more of them changes.
use Rattle.std.proofs.Common.{◌≡◌, ◌<◌, ◌+◌, ◌++◌, [], ◌∷◌, ℕ, List, get_or, set, take, length, None, ◌∙◌, ap, refl, sym, length-set}
use Rattle.std.proofs.lemmas.List.{ext_get_or, take_more}
use Rattle.zones.specs.Zone.{Bounds}
use Rattle.zones.specs.Steps.{any_zone, any_bound}
use Rattle.zones.specs.KnownBounds.{PlacedBound}
use Rattle.zones.specs.Written.{written}
use Rattle.zones.proofs.Places.{length-zone_by}

pub written-push : (entries : List PlacedBound) (kept : PlacedBound) (bounds : Bounds) →
    written (entries ++ kept ∷ []) bounds ≡ set (written entries bounds) kept.place kept.bound
written-push [] kept bounds = refl
written-push (e ∷ rest) kept bounds = written-push rest kept (set bounds e.place e.bound)

pub length-written : (entries : List PlacedBound) (bounds : Bounds) → length (written entries bounds) ≡ length bounds
length-written [] bounds = refl
length-written (e ∷ rest) bounds = length-written rest (set bounds e.place e.bound) ∙ length-set bounds e.place e.bound

-- one more entry of a list is written
pub written-next : (entries : List PlacedBound) (i place : ℕ) (kept : PlacedBound) (table bounds : Bounds) → i < length entries →
    kept ≡ get_or entries i kept → place ≡ kept.place → table ≡ written (take i entries) bounds →
    set table place kept.bound ≡ written (take (i + 1) entries) bounds
written-next entries i place kept table bounds h at there so_far =
    rw (so_far, there) (sym (ap (λ few. written few bounds) (take_more entries i kept h) ∙ written-push (take i entries) _ bounds
    ∙ ap (λ e. set (written (take i entries) bounds) e.place e.bound) (sym at)))

length-written-any : (entries : List PlacedBound) → length (written entries any_zone) ≡ 1024
unfolding any_zone
length-written-any entries = length-written entries any_zone ∙ length-zone_by any_bound

-- entries that have the bound of each place give the table
pub written-is : (entries : List PlacedBound) (table : Bounds) → length table ≡ 1024 →
    ((k : ℕ) → k < 1024 → get_or (written entries any_zone) k None ≡ get_or table k None) → written entries any_zone ≡ table
written-is entries table size each =
    let long : length (written entries any_zone) ≡ 1024 = length-written-any entries in
    ext_get_or None (written entries any_zone) table (long ∙ sym size) (λ k l. each k (rw (← long) l))
