-- Starts of which no landmark is stated.
use Rattle.std.proofs.Common.{◌≡◌, ℕ, List, [], Option, None, Some, ◌⊎◌, inl, inr, subst, sym}
use Rattle.std.specs.Prelude.{IfSome}
use Rattle.landmarks.specs.Starts.AreEachAt.{over}
use Rattle.landmarks.specs.ChainValues.{ChainValue}
use Rattle.cert_check.specs.declared.certificate.Version.{Version}
use Rattle.cert_check.specs.declared.certificate.Version.TheVariants as version
use Rattle.cert_check.specs.checker.Beginning.{stated_chains}
use Rattle.cert_check.specs.checker.Sound.{HaveLandmarks}

-- where no chain is stated, each start has the landmarks
no_landmarks : (lines : Option (List (List ℕ))) → IfSome lines (λ (ls : List (List ℕ)). HaveLandmarks ls [])
no_landmarks None = tt
no_landmarks (Some lines) = ([], over)

-- so it is in versions 1 and 2
pub early_without : (v : Version) (chains : List ChainValue) (lines : Option (List (List ℕ))) → (v ≡ version.One) ⊎ (v ≡ version.Two) →
    IfSome lines (λ (ls : List (List ℕ)). HaveLandmarks ls (stated_chains v chains))
early_without v chains lines (inl is) =
    subst (λ (w : Version). IfSome lines (λ (ls : List (List ℕ)). HaveLandmarks ls (stated_chains w chains))) (sym is) (no_landmarks lines)
early_without v chains lines (inr is) =
    subst (λ (w : Version). IfSome lines (λ (ls : List (List ℕ)). HaveLandmarks ls (stated_chains w chains))) (sym is) (no_landmarks lines)
