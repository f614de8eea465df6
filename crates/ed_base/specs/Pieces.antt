-- Bytes in pieces, as clauses inside the crate see them.
use Rattle.std.specs.Prelude.{ℕ, List, [], Option, Some, None}

-- some bytes, or none where there are none
abbrev pub bytes_or_none : Option (List ℕ) → List ℕ
bytes_or_none None = []
bytes_or_none (Some bytes) = bytes
