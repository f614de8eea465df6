-- What a run has found at the paths that it read (our choice: what was there when a path was read first; two paths are one where they are the
-- same bytes).
use Rattle.std.specs.Prelude.{ℕ, true, false, List, [], ◌∷◌, nat_eq, Option, Some, None}
use Rattle.std.specs.Cmp.Lexicographic.{pointwise}
use Rattle.ed_syntax.specs.declared.request.Answer.{Answer}
use Rattle.ed_syntax.specs.declared.request.Answer.TheVariants as answer
use Rattle.ed_session.specs.declared.file_stamp.FileStamp.{FileStamp}
use Rattle.ed_session.specs.declared.found_files.Found.{Found}

-- what was found at a path, a plain file or nothing, if that was noted
abbrev pub found_at : List ℕ → List Found → Option (Option FileStamp)
found_at path [] = None
found_at path (found ∷ rest) = elim (pointwise nat_eq found.path path) [ true ↦ Some found.file | false ↦ found_at path rest ]

-- what is noted of the first read of a path by its answer: a plain file, or that nothing is there; of anything else nothing
abbrev pub first_read : List ℕ → Option FileStamp → Answer → List Found
first_read path (Some file) given = record { path = path; file = Some file } ∷ []
first_read path None answer.Missing = record { path = path; file = None } ∷ []
first_read path None given = []

-- what is noted of a read of a path at which this was found before
abbrev pub noted : Option (Option FileStamp) → List ℕ → Option FileStamp → Answer → List Found
noted (Some before) path file given = []
noted None path file given = first_read path file given
