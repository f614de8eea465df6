-- Whether some file has the landmarks of a start, and where it is seen that none has (our own).
use Rattle.std.specs.Prelude.{ℕ, zero, suc, pos, negsuc, ◌-ℤ◌, ◌≤◌, ◌≤ℤ◌, Bool, ◌&&◌, ◌||◌, List, [], ◌∷◌, map, length, Option, Some, None, IsTrue}
use Rattle.std.specs.List.{list_any}
use Rattle.zones.specs.Name as name
use Rattle.zones.specs.Name.{mark}
use Rattle.zones.specs.Zone.{Bounds, Numbers}
use Rattle.zones.specs.Steps.{any_zone, after_guard}
use Rattle.zones.specs.Known.{known}
use Rattle.ed_rules.specs.LineBounds.{IsAtMost}
use Rattle.ed_rules.specs.facts.Facts.{Facts, LineFact, is_clear, point_at}
use Rattle.ed_rules.specs.facts.FoundLines.{Known}
use Rattle.landmarks.specs.ChainValues.{ChainValue}
use Rattle.landmarks.specs.Starting.{started}
use Rattle.cert_check.specs.checker.Beginning.{count_of, landmarks_of}
use Rattle.cert_check.specs.checker.Sound.{HaveLandmarks}
use Rattle.analyser.specs.declared.analysis.Start.{Start}
use Rattle.hints.specs.Passing.{chains_in}

-- Some file of so many lines at most has the landmarks of these chains.
pub record SomeFileHas (most : Option ℕ) (chains : List ChainValue) : Type 0 where
  pub file : List (List ℕ)
  pub few : IsAtMost (length file) most
  pub has : HaveLandmarks file (landmarks_of chains)

-- WHERE IT IS SEEN THAT NONE HAS

-- so many letters, from the last of them down
abbrev pub letters_down : (count : ℕ) → List ℕ
letters_down zero = []
letters_down (suc count) = count ∷ letters_down count

-- what is known of the line numbers of a file that has so many lines at most
abbrev pub zone_within : (most : Option ℕ) → Bounds
zone_within None = any_zone
zone_within (Some most) = after_guard any_zone name.last_line name.zero (pos most)

-- what is known of such a file where the landmarks of some chains are in it and as many letters mark their lines
abbrev pub known_there : (most : Option ℕ) → List ChainValue → Known
known_there most chains =
    started (map mark (letters_down (count_of (landmarks_of chains)))) (landmarks_of chains) (zone_within most)

-- a line has to match a pattern that no line there may match
abbrev pub contradicts : Bounds → Facts → LineFact → Bool
contradicts zone facts f = f.matches && is_clear zone facts (point_at f.name (negsuc 0)) (point_at f.name (pos 1)) f.pattern

-- what is known can't be: a number would be less than itself, or a line would match what none there does
abbrev pub is_absurd : Known → Bool
is_absurd k = known k.zone name.zero name.zero (negsuc 0) || list_any (contradicts k.zone k.facts) k.facts.lines

-- It is seen that no file of so many lines at most has the landmarks of these chains: there is a letter for each, and what would be known where
-- they are can't be.
pub record IsSeenNowhere (most : Option ℕ) (chains : List ChainValue) : Type 0 where
  pub few : count_of (landmarks_of chains) ≤ 26
  pub absurd : IsTrue (is_absurd (known_there most chains))

-- it is seen that no file has the landmarks of a start with as many lines as it may have
abbrev pub IsNowhere : Start → Type 0
IsNowhere start = IsSeenNowhere start.max (chains_in start.landmarks)

-- what serves the proof: the number of the last line is at most this
abbrev pub EndsWithin : Numbers → (most : Option ℕ) → Type 0
EndsWithin number None = Unit {0}
EndsWithin number (Some most) = (number name.last_line -ℤ number name.zero) ≤ℤ pos most
