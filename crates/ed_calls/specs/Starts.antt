-- The start that a script is judged over: the one that is given, or one that is found from what is given of it or from a file (our own).
use Rattle.std.specs.Prelude.{◌≡◌, ◌≤◌, ◌⊎◌, ℕ, List, [], Option, Some, IfSome, unwrap_or}
use Rattle.ed_base.specs.Lines.{lines_of}
use Rattle.ed_syntax.specs.Commands.{Script}
use Rattle.ed_syntax.specs.reading.Reading.{script_of}
use Rattle.landmarks.specs.ChainValues.{ChainValue}
use Rattle.ed_rules.specs.LineBounds.{IsAtMost, most_lines}
use Rattle.analyser.specs.declared.analysis.Start.{Start}
use Rattle.hints.specs.declared.like.Like.{Like}
use Rattle.hints.specs.Passing.{IsVouched}
use Rattle.hints.specs.Widest.{IsWidest, fullest}
use Rattle.hints.specs.Landmarks.{IsLandmarked}
use Rattle.hints.specs.Allowing.{AllowsFile}
use Rattle.hints.specs.Like.{IsLike, fullest_like, given_like, lines_in}
use Rattle.ed_calls.specs.declared.starts.Starts.{Starts}
use Rattle.ed_calls.specs.declared.starts.Starts.TheVariants as starts

-- bounds, as far as they are given, are those of some start: in order, and at most most_lines
pub record IsPartOfStart (min max : Option ℕ) : Type 0 where
  pub ordered : IfSome min (λ least. IsAtMost least max)
  pub low : IfSome min (λ least. least ≤ most_lines)
  pub high : IfSome max (λ most. most ≤ most_lines)

-- the path of the start file, if there is one
abbrev pub path_of : Starts → Option (List ℕ)
path_of (starts.Given start) = start.path
path_of (starts.Widest given) = given.path
path_of (starts.Like like) = like.path

-- the chains of landmarks that are given
abbrev pub chains_given : Starts → List ChainValue
chains_given (starts.Given start) = unwrap_or start.landmarks []
chains_given (starts.Widest given) = unwrap_or given.landmarks []
chains_given (starts.Like like) = []

-- the same with these chains; none can be given beside a file that the start is proposed from
abbrev pub with_landmarks : List ChainValue → Starts → Starts
with_landmarks chains (starts.Given start) = starts.Given (record start { landmarks = Some chains })
with_landmarks chains (starts.Widest given) = starts.Widest (record given { landmarks = Some chains })
with_landmarks chains (starts.Like like) = starts.Like like

-- the bounds that are given are those of some start; a file has as many lines at most as a start may have
abbrev pub AreAllowed : Starts → Type 0
AreAllowed (starts.Given start) = IsPartOfStart (Some start.min) start.max
AreAllowed (starts.Widest given) = IsPartOfStart given.min given.max
AreAllowed (starts.Like like) = lines_in like ≤ most_lines

-- A start is one with landmarks that is found of what the file gives of it, each of which is needed, and the file is one that it allows.
pub record IsLandmarkedLike (script : Script) (like : Like) (start : Start) : Type 0 where
  pub landmarked : IsLandmarked script (given_like script like) start
  pub allows : AllowsFile start (lines_of like.file)

-- A script is judged over the start that is given. Where it is to be found, it is the widest one of what is given that is vouched for. Where
-- none is, not even the fullest, it is one with landmarks beside those that are given, each of which is needed, or the fullest, if none was
-- found. Where it is proposed from a file, the file is one that it allows, too; where the script isn't vouched for with as many lines as the file
-- has and all that may be stated of them, it is one with landmarks that the file has, or just that fullest one, if none was found.
abbrev pub IsJudgedFor : (script : List ℕ) → Starts → Start → Type 0
IsJudgedFor script (starts.Given start) judged = judged ≡ start
IsJudgedFor script (starts.Widest given) judged =
    IsWidest (script_of script) given judged
    ⊎ (IsLandmarked (script_of script) given judged ⊎ (judged ≡ fullest (script_of script) given))
    × (IsVouched (script_of script) (fullest (script_of script) given) → ⊥)
IsJudgedFor script (starts.Like like) judged =
    IsLike (script_of script) like judged
    ⊎ (IsLandmarkedLike (script_of script) like judged ⊎ (judged ≡ fullest_like (script_of script) like))
    × (IsVouched (script_of script) (fullest_like (script_of script) like) → ⊥)
