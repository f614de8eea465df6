-- Parts of a list in a row: taken, exchanged for others, entered. Places count the elements before them.
use Rattle.std.specs.Prelude.{ℕ, ◌-◌, List, [], ◌++◌, take, drop}

-- the elements from place a up to place b
abbrev pub block : {A : Type 0} → (a b : ℕ) → List A → List A
block a b xs = drop a (take b xs)

-- others in place of the elements from place a up to place b
abbrev pub exchanged : {A : Type 0} → (a b : ℕ) → (new xs : List A) → List A
exchanged a b new xs = take a xs ++ (new ++ drop b xs)

-- others at a place
abbrev pub inserted : {A : Type 0} → (place : ℕ) → (new xs : List A) → List A
inserted place new xs = exchanged place place new xs

-- the elements from the a-th to the b-th, counted from 1
abbrev pub between : {A : Type 0} → (a b : ℕ) → List A → List A
between a b xs = block (a - 1) b xs

-- others in place of those from the a-th to the b-th, counted from 1
abbrev pub replaced : {A : Type 0} → (a b : ℕ) → (new xs : List A) → List A
replaced a b new xs = exchanged (a - 1) b new xs

-- the elements from place a up to place b at a place among the others
abbrev pub carried : {A : Type 0} → (a b place : ℕ) → List A → List A
carried a b place xs = inserted place (block a b xs) (exchanged a b [] xs)
