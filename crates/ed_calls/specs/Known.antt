-- What is known before a command, as far as a person is told it (our choice of what is told), and when it is true of an editor.
use Rattle.std.specs.Prelude.{◌≡◌, ◌==◌, ◌||◌, ℕ, ℤ, pos, negsuc, Bool, true, false, [], length, All, Option, Some, None, if◌then◌else◌}
use Rattle.std.specs.List.{filter}
use Rattle.zones.specs.Name as name
use Rattle.zones.specs.Zone.{Bounds}
use Rattle.zones.specs.Known.{known, least, greatest}
use Rattle.ed_syntax.specs.meaning.Values.{matches_line}
use Rattle.ed_syntax.specs.meaning.States as editor
use Rattle.ed_rules.specs.declared.line_bounds.LineBounds.{LineBounds}
use Rattle.ed_rules.specs.declared.state.Changed.{Changed}
use Rattle.ed_rules.specs.declared.state.State.{State}
use Rattle.ed_rules.specs.LineBounds.{IsWithin}
use Rattle.ed_rules.specs.Matched.{AreMatched}
use Rattle.ed_rules.specs.facts.Facts.{Facts, LineFact, IsTold}
use Rattle.ed_calls.specs.declared.known.Change.{Change}
use Rattle.ed_calls.specs.declared.known.Change.TheVariants.{No, Maybe, Yes}
use Rattle.ed_calls.specs.declared.known.Known.{Known}

-- the fewest and the most that a number of lines is, by a zone's bounds of it
abbrev pub least_of : Option ℤ → ℕ
least_of None = 0
least_of (Some (pos n)) = n
least_of (Some (negsuc n)) = 0

abbrev pub most_of : Option ℤ → Option ℕ
most_of None = None
most_of (Some (pos n)) = Some n
most_of (Some (negsuc n)) = Some 0

abbrev pub bounds_of : Bounds → (x : ℕ) → LineBounds
bounds_of zone x = record { min = least_of (least zone x name.zero); max = most_of (greatest zone x name.zero) }

-- it is changed where it can't be as it was, and not where it can't be changed
abbrev pub change_of : Changed → Change
change_of flag = if flag.yes then (if flag.no then Maybe else Yes) else No

-- of single lines the current one and the last one are told
abbrev pub is_shown : LineFact → Bool
is_shown f = f.name == name.current_line || f.name == name.last_line

abbrev pub shown_of : Facts → Facts
shown_of facts = record { lines = filter is_shown facts.lines; clear = [] }

-- what a state says
abbrev pub known_of : State → Known
known_of s = record {
  lines = bounds_of s.zone name.last_line;
  current = bounds_of s.zone name.current_line;
  is_last = known s.zone name.last_line name.current_line (pos 0);
  change = change_of s.changed;
  has = s.matches.has;
  told = shown_of s.facts;
}

-- what is said of the buffer's changes is true
abbrev pub TellsChange : Change → (changed : Bool) → Type 0
TellsChange No changed = changed ≡ false
TellsChange Maybe changed = Unit {0}
TellsChange Yes changed = changed ≡ true

-- the line of which a fact tells, of an editor: the current one, or else the last one
abbrev pub line_told : editor.State → LineFact → ℕ
line_told e f = if f.name == name.current_line then e.current else length e.lines

-- a fact is true of an editor: there is such a line, and it matches the pattern, or it doesn't
abbrev pub IsFactOf : editor.State → LineFact → Type 0
IsFactOf e f = IsTold (length e.lines) (matches_line f.pattern e.lines) (pos (line_told e f)) f.matches

-- all that is known is true of an editor
pub record IsTrueOf (k : Known) (e : editor.State) : Type 0 where
  pub lines : IsWithin k.lines.min k.lines.max (length e.lines)
  pub current : IsWithin k.current.min k.current.max e.current
  pub last : k.is_last ≡ true → e.current ≡ length e.lines
  pub change : TellsChange k.change e.changed
  pub matched : AreMatched k.has e.lines
  pub told : All (IsFactOf e) k.told.lines
