-- Whether a file is one that a start allows, and the file at hand, which each hinted start has to allow (our own).
use Rattle.std.specs.Prelude.{ℕ, List, [], Option, Some, None, unwrap_or}
use Rattle.ed_base.specs.Lines.{lines_of}
use Rattle.cert_check.specs.checker.Beginning.{landmarks_of}
use Rattle.cert_check.specs.checker.Sound.{HaveLandmarks}
use Rattle.analyser.specs.declared.analysis.Start.{Start}
use Rattle.hints.specs.Like.{Fits}

-- These lines are those of a file that a start allows: there are as many as it may have, each pattern that it states is matched by one, and the
-- landmarks that it states are in them.
abbrev pub AllowsFile : Start → (lines : List (List ℕ)) → Type 0
AllowsFile start lines = Fits start lines × HaveLandmarks lines (landmarks_of (unwrap_or start.landmarks []))

-- the file at hand is one that a start allows, where there is one
abbrev pub Suits : (file : Option (List ℕ)) → Start → Type 0
Suits None start = Unit {0}
Suits (Some file) start = AllowsFile start (lines_of file)

-- a start allows the file at hand, where the given one does
abbrev pub StaysSuited : (file : Option (List ℕ)) → (given start : Start) → Type 0
StaysSuited file given start = Suits file given → Suits file start
