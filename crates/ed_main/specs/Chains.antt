-- The chains of landmarks that words give, of which the job that they give has the texts (our own).
use Rattle.std.specs.Prelude.{◌≡◌, ◌≢◌, ℕ, List, [], Option}
use Rattle.landmarks.specs.ChainValues.{ChainValue}
use Rattle.hints.specs.Nowhere.{SomeFileHas}
use Rattle.ed_calls.specs.Landmarked.{AreSpelled}
use Rattle.ed_calls.specs.Starts.{with_landmarks}
use Rattle.ed_calls.specs.declared.starts.Starts.{Starts}

-- The texts spell chains, and some file of so many lines at most has their landmarks.
pub record AreHad (most : Option ℕ) (texts : List (List ℕ)) : Type 0 where
  pub chains : List ChainValue
  pub spelled : AreSpelled texts chains
  pub somewhere : SomeFileHas most chains

-- A start as it is given, with the landmarks of the chains that the texts spell; where there are none, it is as it is.
pub data AreLandmarked (given : Starts) (texts : List (List ℕ)) (starts : Starts) : Type 0 where
  as_given : texts ≡ [] → starts ≡ given → AreLandmarked given texts starts
  landmarked : (chains : List ChainValue) → texts ≢ [] → AreSpelled texts chains → starts ≡ with_landmarks chains given →
      AreLandmarked given texts starts
