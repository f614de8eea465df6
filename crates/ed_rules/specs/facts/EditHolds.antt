-- What an edit has to be for a rule to know of it: its places and its new lines, and the numbers before and after it.
use Rattle.std.specs.Prelude.{◌≡◌, ℕ, ◌+◌, ◌-◌, ◌<◌, ◌≤◌, pos, Bool, true, List, [], ◌∷◌, map, length, All, Option, Some, None}
use Rattle.zones.specs.Name as name
use Rattle.zones.specs.Name.{mark}
use Rattle.zones.specs.Zone.{Bounds, Numbers, Holds}
use Rattle.ed_base.specs.Buffer.{Line}
use Rattle.ed_base.specs.Parts.{exchanged}
use Rattle.ed_syntax.specs.meaning.Values.{matches}
use Rattle.ed_rules.specs.facts.Facts.{Facts, FactsHold, value_of}
use Rattle.ed_syntax.specs.meaning.States as editor
use Rattle.ed_syntax.specs.meaning.Ranges.{Span}
use Rattle.ed_rules.specs.Marks.{is_sure}
use Rattle.ed_rules.specs.StandsFor.{Reads}
use Rattle.ed_rules.specs.facts.EditedFacts.{Fresh, Edit, Moves, IsLeft, stays, edited}

-- what is known of a new line is true of it
abbrev pub IsFresh : Fresh → Line → Type 0
IsFresh f line = (pattern : List ℕ) (answer : Bool) → f pattern ≡ Some answer → matches pattern line.bytes ≡ answer

abbrev pub AreFresh : List Fresh → List Line → Type 0
AreFresh [] [] = Unit {0}
AreFresh [] (line ∷ new) = ⊥
AreFresh (f ∷ fresh) [] = ⊥
AreFresh (f ∷ fresh) (line ∷ new) = IsFresh f line × AreFresh fresh new

abbrev pub AreFreshIf : Option (List Fresh) → List Line → Type 0
AreFreshIf None new = Unit {0}
AreFreshIf (Some fresh) new = AreFresh fresh new

-- a name that stays numbers a line that doesn't give way
abbrev pub Stays : (a b n : ℕ) → (number after : Numbers) → ℕ → Type 0
Stays a b n number after x = (x < 32) × Moves a b n (number x) (after x)

-- The lines a to b give way to new ones, by these numbers before it and those after it; `current` is then the current line.
pub record IsEdit (zone : Bounds) (facts : Facts) (e : Edit) (kept : List ℕ) (number after : Numbers) (old new : List Line)
    (a b current : ℕ) : Type 0 where
  pub holds : Holds zone number
  pub facts_hold : FactsHold facts number old
  pub from_named : e.from.name < 32
  pub to_named : e.to.name < 32
  pub from_is : value_of number e.from ≡ pos a
  pub to_is : value_of number e.to ≡ pos b
  pub from : 1 ≤ a
  pub order : a ≤ b + 1
  pub inside : b ≤ length old
  pub zero_is : number name.zero ≡ pos 0
  pub zero_after : after name.zero ≡ pos 0
  pub last_is : number name.last_line ≡ pos (length old)
  pub last_after : after name.last_line ≡ pos (length (exchanged (a - 1) b new old))
  pub current_after : after name.current_line ≡ pos current
  pub left : IsLeft a (length new) (length (exchanged (a - 1) b new old)) current
  pub stay : All (Stays a b (length new) number after) kept
  pub fresh : AreFreshIf e.fresh new

-- a letter stays: it surely marked a line before and marks one after, and the rule says that its line doesn't give way
abbrev pub LetterStays : (zone : Bounds) (facts : Facts) (e : Edit) (before after : List Bool) → (letter : ℕ) → Type 0
LetterStays zone facts e before after letter =
    (letter < 26) × (is_sure before letter ≡ true) × (is_sure after letter ≡ true) × (stays zone facts e (mark letter) ≡ true)

-- What is true of an editor where a command is about to take the lines of a span: the zone and the facts, by numbers of which the first two
-- addresses are the span's lines.
pub record Takes (zone : Bounds) (facts : Facts) (marks : List Bool) (number : Numbers) (e : editor.State) (x : Span) : Type 0 where
  pub holds : Holds zone number
  pub facts_hold : FactsHold facts number e.lines
  pub reads : Reads marks e.lines e.current number
  pub first_is : number name.first_address ≡ pos x.first
  pub last_is : number name.second_address ≡ pos x.last
  pub inside : x.last ≤ length e.lines

-- the facts that are left after an edit are true of what a command makes, by any numbers that are read of it
abbrev pub FactsAreLeft : (zone : Bounds) (facts : Facts) (marks : List Bool) (edit : Edit) → editor.State → Type 0
FactsAreLeft zone facts marks edit made =
    (letters : List ℕ) (patterns : List (List ℕ)) (after_marks : List Bool) (after : Numbers) →
    Reads after_marks made.lines made.current after →
    All (LetterStays zone facts edit marks after_marks) letters →
    FactsHold (edited zone facts edit (map mark letters) patterns) after made.lines
