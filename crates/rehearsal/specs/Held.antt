-- The writes that a rehearsal tells of.
use Rattle.std.specs.Prelude.{List, [], ◌∷◌, ◌++◌, length}
use Rattle.ed_base.specs.Lines.{lines_of}
use Rattle.ed_syntax.specs.declared.request.Request.{Request}
use Rattle.ed_syntax.specs.declared.request.Request.TheVariants as request
use Rattle.ed_session.specs.Drives.{Log}
use Rattle.rehearsal.specs.declared.held_write.HeldWrite.{HeldWrite}

-- what is told of a request: of a write its path, its lines and its bytes
abbrev pub told_of : Request → List HeldWrite
told_of (request.Read path) = []
told_of (request.Write path bytes) = record { path = path; lines = length (lines_of bytes); bytes = length bytes } ∷ []

-- the writes of a log, the oldest first
abbrev pub writes_of : Log → List HeldWrite
writes_of [] = []
writes_of (entry ∷ log) = told_of entry.0 ++ writes_of log
