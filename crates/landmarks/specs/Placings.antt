-- What is answered of the places of a chain (our own).
use Rattle.std.specs.Prelude.{ℕ, List}
use Rattle.landmarks.specs.declared.landmark.Landmark.{Landmark}
use Rattle.landmarks.specs.declared.places.Placing.{Placing}
use Rattle.landmarks.specs.declared.places.Placing.TheVariants.{Placed, Wrong}
use Rattle.landmarks.specs.Places.{AreAt}
use Rattle.landmarks.specs.Misplaced.{IsMisplaced}

-- the places of all, or the first that isn't where it should be
abbrev pub IsPlacing : (lines : List (List ℕ)) → List Landmark → Placing → Type 0
IsPlacing lines chain (Placed places) = AreAt lines 0 chain places.items
IsPlacing lines chain (Wrong wrong) = IsMisplaced lines chain wrong
