-- Remarks that come after others.
use Rattle.std.specs.Prelude.{◌≡◌, ℕ, List, ◌∷◌, [], ◌++◌, if◌then◌else◌}
use Rattle.remarks.specs.declared.slip.Slip.{Slip}
use Rattle.remarks.specs.declared.slip.Remarked.{Remarked}
use Rattle.remarks.specs.Told.{tells, IsOnce}

-- a remark of this kind at this line comes after those before, unless its kind is there
abbrev pub with_remark : (line : ℕ) → Slip → List Remarked → List Remarked
with_remark line kind found = if tells kind found then found else found ++ record { line = line; slip = kind } ∷ []

-- Some remarks came after those before. No kind is there twice, unless one was before.
pub record Adds (old new : List Remarked) : Type 0 where
  pub more : List Remarked
  pub added : new ≡ old ++ more
  pub once : IsOnce old → IsOnce new
