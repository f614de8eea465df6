-- Files that have the landmarks of chains, one chain after another.
use Rattle.std.proofs.Common.{◌↔◌, ℕ, List, [], ◌∷◌, ◌++◌}
use Rattle.landmarks.specs.declared.landmark.Landmark.{Landmark}
use Rattle.landmarks.specs.Places.{AreAt}
use Rattle.landmarks.specs.Starts.AreEachAt.{over, next}
use Rattle.cert_check.specs.checker.Sound.{HaveLandmarks}

pub no_chains : (lines : List (List ℕ)) → HaveLandmarks lines []
no_chains lines = ([], over)

pub own_places : (lines : List (List ℕ)) (chain : List Landmark) (chains : List (List Landmark)) → HaveLandmarks lines (chain ∷ chains) →
    (own : List ℕ) × AreAt lines 0 chain own
own_places lines chain chains (_, next _ _ own later at rest) = (own, at)

later_placed : (lines : List (List ℕ)) (chain : List Landmark) (chains : List (List Landmark)) → HaveLandmarks lines (chain ∷ chains) →
    HaveLandmarks lines chains
later_placed lines chain chains (_, next _ _ own later at rest) = (later, rest)

-- where those of the first chain have places, the rest decide
pub first_placed : (lines : List (List ℕ)) (chain : List Landmark) (chains : List (List Landmark)) (own : List ℕ) → AreAt lines 0 chain own →
    HaveLandmarks lines (chain ∷ chains) ↔ HaveLandmarks lines chains
first_placed lines chain chains own at =
    (later_placed lines chain chains, λ h. (own ++ h.0, next chain chains own h.0 at h.1))
