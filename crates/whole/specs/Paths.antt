-- The paths that a run writes, each once (our choice: two paths are one where they are the same bytes).
use Rattle.std.specs.Prelude.{ℕ, Bool, true, false, ◌||◌, List, [], ◌∷◌, ◌++◌, flat_map, nat_eq}
use Rattle.std.specs.Cmp.Lexicographic.{pointwise}
use Rattle.ed_syntax.specs.declared.request.Answer.{Answer}
use Rattle.ed_syntax.specs.declared.request.Request.{Request}
use Rattle.ed_syntax.specs.declared.request.Request.TheVariants as request
use Rattle.ed_session.specs.Drives.{Log}
use Rattle.whole.specs.Deeds.{Deed, run_log}

-- the path that a request writes, if it writes one
abbrev pub write_path : Request → List (List ℕ)
write_path (request.Read path) = []
write_path (request.Write path bytes) = path ∷ []

-- the paths that the requests of a log write, in order
abbrev pub write_paths : Log → List (List ℕ)
write_paths log = flat_map (λ (entry : Request × Answer). write_path entry.0) log

-- a path is one of these
abbrev pub is_in : List ℕ → List (List ℕ) → Bool
is_in path [] = false
is_in path (first ∷ paths) = pointwise nat_eq first path || is_in path paths

-- these paths with one more, unless it is one of them
abbrev pub more_paths : (known : Bool) → List (List ℕ) → List ℕ → List (List ℕ)
more_paths true paths path = paths
more_paths false paths path = paths ++ path ∷ []

-- these paths, without this one
abbrev pub without : List ℕ → List (List ℕ) → List (List ℕ)
without path [] = []
without path (first ∷ paths) = elim (pointwise nat_eq path first) [
  | true ↦ without path paths
  | false ↦ first ∷ without path paths
]

-- each of these paths once, in the order in which they come first
abbrev pub each_once : List (List ℕ) → List (List ℕ)
each_once [] = []
each_once (path ∷ paths) = path ∷ without path (each_once paths)

-- the paths that a run has written, each once, in the order of their first writes
abbrev pub written_paths : List Deed → List (List ℕ)
written_paths deeds = each_once (write_paths (run_log deeds))
