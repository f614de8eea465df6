-- What a zone with facts holds of, and what a search comes to of which it knows that it finds a line.
use Rattle.std.specs.Prelude.{◌≡◌, ℕ, ◌≤◌, pos, List, length, Result, Ok}
use Rattle.zones.specs.Name as name
use Rattle.zones.specs.Zone.{Numbers, Holds, updated}
use Rattle.ed_base.specs.Buffer.{Line}
use Rattle.ed_base.specs.declared.fault.Fault.{Fault}
use Rattle.ed_rules.specs.facts.Facts.{FactsHold}
use Rattle.ed_rules.specs.facts.FoundLines.{Known}

-- a zone with facts holds of numbers and lines
pub record KnownHolds (k : Known) (number : Numbers) (lines : List Line) : Type 0 where
  pub zone : Holds k.zone number
  pub facts : FactsHold k.facts number lines

-- the numbers of 0, of the current line and of the last one
pub record ReadsPlaces (w : Numbers) (current : ℕ) (lines : List Line) : Type 0 where
  pub zero_is : w name.zero ≡ pos 0
  pub current_is : w name.current_line ≡ pos current
  pub last_is : w name.last_line ≡ pos (length lines)

-- A search that a fact vouches for finds a line, and what is said of it is true.
pub record Finds (found : Known) (number : Numbers) (x : ℕ) (lines : List Line) (result : Result ℕ Fault) : Type 0 where
  pub line : ℕ
  pub is : result ≡ Ok line
  pub from : 1 ≤ line
  pub inside : line ≤ length lines
  pub holds : KnownHolds found (updated number x (pos line)) lines
