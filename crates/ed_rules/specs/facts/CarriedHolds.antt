-- What `m` has to be for its rule to know of it, by numbers.
use Rattle.std.specs.Prelude.{◌≡◌, ℕ, ◌+◌, ◌-◌, ◌<◌, ◌≤◌, ◌⊎◌, pos, List, length, All}
use Rattle.zones.specs.Name as name
use Rattle.zones.specs.Zone.{Bounds, Numbers, Holds}
use Rattle.ed_base.specs.Buffer.{Line}
use Rattle.ed_rules.specs.facts.Facts.{Facts, FactsHold}
use Rattle.ed_rules.specs.facts.CarriedFacts.{carried_to}

-- a letter is the number of a line, and goes with it
pub record GoesWith (a b place count : ℕ) (number after : Numbers) (x : ℕ) : Type 0 where
  pub named : x < 32
  pub line : ℕ
  pub is : number x ≡ pos line
  pub from : 1 ≤ line
  pub inside : line ≤ count
  pub after_is : after x ≡ pos (carried_to a b place line)

-- The lines after a up to b are carried to a place among the others: up, to the target t, or down, where t counts them too.
pub record IsCarried (zone : Bounds) (facts : Facts) (kept : List ℕ) (number after : Numbers) (old : List Line)
    (a b t place : ℕ) : Type 0 where
  pub holds : Holds zone number
  pub facts_hold : FactsHold facts number old
  pub first_is : number name.first_address ≡ pos (a + 1)
  pub second_is : number name.second_address ≡ pos b
  pub target_is : number name.target_address ≡ pos t
  pub some : a < b
  pub inside : b ≤ length old
  pub fits : t ≤ length old
  pub way : ((t ≤ a) × (place ≡ t)) ⊎ ((b ≤ t) × (place + (b - a) ≡ t))
  pub zero_is : number name.zero ≡ pos 0
  pub zero_after : after name.zero ≡ pos 0
  pub last_is : number name.last_line ≡ pos (length old)
  pub last_after : after name.last_line ≡ pos (length old)
  pub current_after : after name.current_line ≡ pos (place + (b - a))
  pub stay : All (GoesWith a b place (length old) number after) kept
