-- The start that is found for a script of what is given of it: the fewest lines, and no pattern that isn't needed (our own).
use Rattle.std.specs.Prelude.{◌≡◌, ◌<◌, ◌-◌, ℕ, zero, suc, List, [], length, All, Option, Some, None, IfSome, IfNone, remove}
use Rattle.std.specs.List.{Contains}
use Rattle.std.specs.Option.{unwrap_or}
use Rattle.ed_syntax.specs.Commands.{Script}
use Rattle.ed_rules.specs.Texts.{with_texts}
use Rattle.ed_rules.specs.Matched.{sought_in}
use Rattle.analyser.specs.declared.analysis.Start.{Start}
use Rattle.analyser.specs.Following.{stated_of}
use Rattle.hints.specs.declared.given.Given.{Given}
use Rattle.hints.specs.Passing.{IsAllowed, IsVouched, most_of, with_min}

-- the start that is given, its landmarks among it, with this least number of lines and these patterns
abbrev pub start_with : Given → (min : ℕ) → (has : Option (List (List ℕ))) → Start
start_with given min has = record { path = given.path; min = min; max = given.max; has = has; landmarks = given.landmarks }

-- the patterns that are given, and these beside them
abbrev pub beside : Given → (added : List (List ℕ)) → Option (List (List ℕ))
beside given added = Some (with_texts added (stated_of given.has))

-- the set of the patterns that a script's searches are given, in addresses, targets and lists
abbrev pub searched : Script → List (List ℕ)
searched script = with_texts (sought_in script) []

-- the fewest lines that are given, or else as many as there may be
abbrev pub fullest_min : Given → ℕ
fullest_min given = unwrap_or given.min (most_of given.max)

-- The patterns that may be stated beside those that are given: those that the script's searches are given, but none where there may be no
-- line, since none could match then.
abbrev pub addable : Script → (most : Option ℕ) → List (List ℕ)
addable script None = searched script
addable script (Some zero) = []
addable script (Some (suc most)) = searched script

-- the fullest start of what is given: with so many lines at least, and each pattern that may be stated
abbrev pub fullest : Script → Given → Start
fullest script given = start_with given (fullest_min given) (beside given (addable script given.max))

-- Patterns that are stated beside those that are given are needed: each is one that a search of the script is given, and without any one of
-- them the script isn't vouched for, nor with just what is given. There is room for them: where there are any, there may be a line.
pub record AreNeeded (script : Script) (given : Given) (min : ℕ) (added : List (List ℕ)) : Type 0 where
  pub sought : All (Contains (searched script)) added
  pub room : 0 < length added → 0 < most_of given.max
  pub each : (place : ℕ) → place < length added → IsVouched script (start_with given min (beside given (remove added place))) → ⊥
  pub all : IsVouched script (start_with given min given.has) → ⊥

-- a start states what is given, or patterns beside that, which are needed
pub data StatesNeeded (script : Script) (given : Given) (start : Start) : Type 0 where
  as_given : start.has ≡ given.has → StatesNeeded script given start
  with_more : (added : List (List ℕ)) → start.has ≡ beside given added → AreNeeded script given start.min added → StatesNeeded script given start

-- A start has what is given of it, and the script is vouched for over it. Where the fewest lines aren't given, it isn't with one line less.
-- No pattern is stated beside those that are given that isn't needed.
pub record IsWidest (script : Script) (given : Given) (start : Start) : Type 0 where
  pub path : start.path ≡ given.path
  pub given_least : IfSome given.min (λ min. start.min ≡ min)
  pub most : start.max ≡ given.max
  pub landmarks : start.landmarks ≡ given.landmarks
  pub allowed : IsAllowed start
  pub vouched : IsVouched script start
  pub least : IfNone given.min (0 < start.min → IsVouched script (with_min start (start.min - 1)) → ⊥)
  pub stated : StatesNeeded script given start
