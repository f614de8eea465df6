-- Sure marks: for each of the 26 letters whether it surely marks a line. Letters count from 0, which is `a`.
use Rattle.std.specs.Prelude.{◌≡◌, ℕ, zero, suc, ◌<◌, Bool, true, false, ◌&&◌, List, map, replicate, slice_index_or, if◌then◌else◌}
use Rattle.std.specs.List.{range_with_len}

-- the letter surely marks a line
abbrev pub is_sure : List Bool → (letter : ℕ) → Bool
is_sure marks letter = slice_index_or marks letter false

-- none is sure
abbrev pub no_marks : List Bool
no_marks = replicate 26 false

-- those that are sure in both
unfoldable pub both_sure : List Bool → List Bool → List Bool
both_sure one other = map (λ letter. is_sure one letter && is_sure other letter) (range_with_len 0 26)

-- each that is sure in the first is sure in the second
abbrev pub AreAmong : (few many : List Bool) → Type 0
AreAmong few many = (letter : ℕ) → letter < 26 → is_sure few letter ≡ true → is_sure many letter ≡ true

-- a step for each of the first k letters that is sure, in rising order
unfoldable pub for_each_sure : {A : Type 0} → (ℕ → A → A) → List Bool → (k : ℕ) → A → A
for_each_sure step marks zero a = a
for_each_sure step marks (suc k) a =
    if is_sure marks k then step k (for_each_sure step marks k a) else for_each_sure step marks k a
