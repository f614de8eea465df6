-- The folder in which a path is looked for (our choice: a path of one name stands in the folder of the process).
use Rattle.std.specs.Prelude.{ℕ, List, [], ◌∷◌, Option, Some, None, codes}
use Rattle.std.specs.Path.{path_parent}

-- a folder, or where none is named that of the process
abbrev pub named_or_own : Option (List ℕ) → List ℕ
named_or_own None = codes "."
named_or_own (Some []) = codes "."
named_or_own (Some (byte ∷ bytes)) = byte ∷ bytes

-- the folder of a path
abbrev pub folder_bytes : List ℕ → List ℕ
folder_bytes path = named_or_own (path_parent path)
