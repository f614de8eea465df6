-- What is known of a start over which a script may be judged, and any start with a file (our choice: at most 10^12 lines).
use Rattle.std.specs.Prelude.{◌≢◌, List, ℕ, [], Option, Some, None}
use Rattle.ed_calls.specs.Starts.{AreAllowed, path_of}
use Rattle.ed_calls.specs.declared.starts.Starts.{Starts}
use Rattle.ed_calls.specs.declared.starts.Starts.TheVariants.{Widest}

-- a path has a byte
abbrev pub HasBytes : (path : Option (List ℕ)) → Type 0
HasBytes path = path ≢ Some []

-- the bounds that are given are in order, and neither is above 10^12, nor is the number of lines of a file; a path has a byte
pub record AreStarts (starts : Starts) : Type 0 where
  pub allowed : AreAllowed starts
  pub path : HasBytes (path_of starts)

-- how many lines a start may have at most: without a file the buffer is empty
abbrev pub most_at : (path : Option (List ℕ)) → Option ℕ
most_at None = Some 0
most_at (Some path) = None

-- any start with the file at this path, or without one, that states these patterns
abbrev pub any_start : (path : Option (List ℕ)) → (has : Option (List (List ℕ))) → Starts
any_start path has = Widest (record { path = path; min = None; max = most_at path; has = has; landmarks = None })
