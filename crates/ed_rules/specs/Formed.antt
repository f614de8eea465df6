-- A state that can be written down: its zones speak of the lines and of the letters beside them alone, and each set has a member and
-- rises.
use Rattle.std.specs.Prelude.{◌≡◌, ℕ, ◌-◌, ◌<◌, ◌/◌, ◌%◌, ◌==◌, zero, ℤ, pos, Bool, true, false, not, ◌&&◌, ◌||◌, List, [], map, length, get_or, Option, Some, None, is_some, nat_le, nat_lt, All}
use Rattle.zones.specs.Name as name
use Rattle.zones.specs.Name.{last_line}
use Rattle.zones.specs.Zone.{Bounds, bound}
use Rattle.zones.specs.Limits.{IsZone, IsAtMostZero, HasLowDiagonal}
use Rattle.ed_syntax.specs.Commands as ed
use Rattle.ed_syntax.specs.Commands.{Base, Address, Addresses, Without, One, Comma, Semicolon, Verb, Command}
use Rattle.ed_syntax.specs.meaning.Verbs.{takes}
use Rattle.ed_rules.specs.declared.state.Old.{Old}
use Rattle.ed_rules.specs.declared.state.State.{State}
use Rattle.ed_rules.specs.Choices.{Choice, is_rising}
use Rattle.ed_rules.specs.Marks.{is_sure}
use Rattle.ed_rules.specs.Texts.{are_rising}

-- a zone says nothing by the bound 0 of a difference of a name with itself
abbrev pub says_nothing : (x y : ℕ) → ℤ → Bool
says_nothing x y (pos zero) = x == y
says_nothing x y c = false

-- the name is `0`, `.`, `$` or a sure letter
abbrev pub has_name : List Bool → (place : ℕ) → Bool
has_name marks place = nat_lt place 3 || (nat_le 6 place && is_sure marks (place - 6))

-- A zone knows each name's difference with itself, and says something of lines and sure letters only.
abbrev pub may_say : List Bool → (x y : ℕ) → Option ℤ → Bool
may_say marks x y None = not (x == y)
may_say marks x y (Some c) = says_nothing x y c || (has_name marks x && has_name marks y)

-- a zone beside these marks
pub record ZoneIsFormed (marks : List Bool) (zone : Bounds) : Type 0 where
  pub letters : length marks ≡ 26
  pub is_zone : IsZone zone
  pub says : (place : ℕ) → place < 1024 → may_say marks (place / 32) (place % 32) (get_or zone place None) ≡ true

abbrev pub OldIsFormed : Option Old → Type 0
OldIsFormed None = Unit {0}
OldIsFormed (Some old) = ZoneIsFormed old.marks old.zone

-- texts and paths are bytes
abbrev pub ChoiceIsBytes : Choice → Type 0
ChoiceIsBytes None = Unit {0}
ChoiceIsBytes (Some bytes) = All (λ byte. byte < 256) bytes

-- a set of choices with a member
pub record SetIsFormed (set : List Choice) : Type 0 where
  pub bytes : All ChoiceIsBytes set
  pub rising : is_rising set ≡ true
  pub some : 0 < length set

-- a set of texts, of bytes, which rise; it may be empty
pub record TextsAreFormed (set : List (List ℕ)) : Type 0 where
  pub bytes : All ChoiceIsBytes (map Some set)
  pub rising : are_rising set ≡ true

-- where undo has no earlier lines, nothing is said of what they match
abbrev pub IsOfLines : Option Old → (old_has : List (List ℕ)) → Type 0
IsOfLines None old_has = old_has ≡ []
IsOfLines (Some old) old_has = Unit {0}

-- what a state says of matches
pub record MatchesAreFormed (s : State) : Type 0 where
  pub has : TextsAreFormed s.matches.has
  pub old_has : TextsAreFormed s.matches.old_has
  pub of_lines : IsOfLines s.undo.was s.matches.old_has

pub record StateIsFormed (s : State) : Type 0 where
  pub zone : ZoneIsFormed s.marks s.zone
  pub patterns : SetIsFormed s.patterns
  pub replacements : (s.replacements.none || s.replacements.plain || s.replacements.split) ≡ true
  pub names : SetIsFormed s.names
  pub changed : (s.changed.no || s.changed.yes) ≡ true
  pub undo : (s.undo.nothing || s.undo.same || is_some s.undo.was) ≡ true
  pub old : OldIsFormed s.undo.was

-- WHAT RULES KEEP

-- what an old zone says of a name and itself is at most 0
abbrev pub OldIsLow : Option Old → Type 0
OldIsLow None = Unit {0}
OldIsLow (Some old) = HasLowDiagonal old.zone

-- A formed state as the rules make it: what a zone says of a name and itself is at most 0, so that of a letter that isn't sure 0 is
-- said where two states are joined.
pub record IsFormed (s : State) : Type 0 where
  pub formed : StateIsFormed s
  pub low : HasLowDiagonal s.zone
  pub old_low : OldIsLow s.undo.was

-- it is known that there are at least 0 lines
abbrev pub IsCounted : Bounds → Type 0
IsCounted zone = IsAtMostZero (bound zone name.zero last_line)

-- A state at the start or at a rule's end. What a widening makes needn't be one: it may give up how many lines there are at least.
pub record IsEnded (s : State) : Type 0 where
  pub formed : IsFormed s
  pub counted : IsCounted s.zone

-- the pattern of a search is bytes
abbrev pub BaseIsBytes : Base → Type 0
BaseIsBytes (ed.Forward pattern) = ChoiceIsBytes pattern
BaseIsBytes (ed.Backward pattern) = ChoiceIsBytes pattern
BaseIsBytes _ = Unit {0}

-- those of a command's addresses are
abbrev pub AddressesAreBytes : Addresses → Type 0
AddressesAreBytes Without = Unit {0}
AddressesAreBytes (One a) = BaseIsBytes a.base
AddressesAreBytes (Comma a b) = BaseIsBytes a.base × BaseIsBytes b.base
AddressesAreBytes (Semicolon a None) = BaseIsBytes a.base
AddressesAreBytes (Semicolon a (Some b)) = BaseIsBytes a.base × BaseIsBytes b.base

abbrev pub TargetIsBytes : Option Address → Type 0
TargetIsBytes None = Unit {0}
TargetIsBytes (Some a) = BaseIsBytes a.base

-- the patterns and paths of a command's parameters are bytes
abbrev pub VerbIsBytes : Verb → Type 0
VerbIsBytes verb = TargetIsBytes (takes verb).target × ChoiceIsBytes (takes verb).pattern × ChoiceIsBytes (takes verb).path

-- the patterns and paths that a command may make an editor remember are bytes
abbrev pub TextsAreBytes : Command → Type 0
TextsAreBytes c = AddressesAreBytes c.addresses × VerbIsBytes c.verb
