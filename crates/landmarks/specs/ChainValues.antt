-- A chain of landmarks with the text that spells it.
use Rattle.std.specs.Prelude.{ℕ, List}
use Rattle.landmarks.specs.declared.landmark.Landmark.{Landmark}

-- the text, and the landmarks in their order
pub record ChainValue : Type 0 where
  pub text : List ℕ
  pub landmarks : List Landmark
