-- A zone that takes up distances, some after others.
use Rattle.std.proofs.Common.{◌≡◌, ℕ, List, [], ◌∷◌, ◌++◌, length, drop, refl, ap, ◌∙◌}
use Rattle.std.specs.List.{flat_map}
use Rattle.std.proofs.lemmas.Grind.{flat_map-append}
use Rattle.zones.specs.Zone.{Bounds}
use Rattle.zones.specs.Steps.{after_guard}
use Rattle.landmarks.specs.declared.landmark.Landmark.{Landmark}
use Rattle.landmarks.specs.Starting.{named_below, named, Distance, distances_of, guarded}

pub guarded_append : (one more : List Distance) (zone : Bounds) → guarded (one ++ more) zone ≡ guarded more (guarded one zone)
guarded_append [] more zone = refl
guarded_append (d ∷ one) more zone = guarded_append one more (after_guard zone d.of d.from d.most)

-- one chain, and the others after it
pub guarded_chains : (names : List ℕ) (chain : List Landmark) (chains : List (List Landmark)) (zone : Bounds) →
    guarded (flat_map distances_of (named names (chain ∷ chains))) zone ≡
    guarded (flat_map distances_of (named (drop (length chain) names) chains))
    (guarded (flat_map distances_of (named_below 0 names chain)) zone)
guarded_chains names chain chains zone =
    ap (λ (ds : List Distance). guarded ds zone)
    (flat_map-append distances_of (named_below 0 names chain) (named (drop (length chain) names) chains))
    ∙ guarded_append (flat_map distances_of (named_below 0 names chain))
    (flat_map distances_of (named (drop (length chain) names) chains)) zone
