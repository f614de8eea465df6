-- What a state stands for: the editor's states of which all that it says is true.
use Rattle.std.specs.Prelude.{◌≡◌, ℕ, ◌+◌, ◌<◌, ◌≤◌, pos, Bool, true, false, List, length, Option, Some, None, nat_eq, if◌then◌else◌}
use Rattle.std.specs.List.{list_any}
use Rattle.zones.specs.Name.{mark}
use Rattle.zones.specs.Name as name
use Rattle.zones.specs.Zone.{Bounds, Numbers, Holds}
use Rattle.ed_base.specs.Buffer.{Line, marked_place, KnowLetters, AtMostOnce}
use Rattle.ed_base.specs.Lines.{newline}
use Rattle.ed_syntax.specs.declared.replacement.Part.{Part}
use Rattle.ed_syntax.specs.declared.replacement.Part.TheVariants.{Literal, Split}
use Rattle.ed_syntax.specs.meaning.CommandLaws.{AreWhole, OfPast}
use Rattle.ed_syntax.specs.meaning.States as editor
use Rattle.ed_syntax.specs.meaning.States.{Past, Nothing, Same, Was, Kept}
use Rattle.ed_rules.specs.declared.known_matches.Matches.{Matches}
use Rattle.ed_rules.specs.declared.state.Old.{Old}
use Rattle.ed_rules.specs.declared.state.Changed.{Changed}
use Rattle.ed_rules.specs.declared.state.Replacements.{Replacements}
use Rattle.ed_rules.specs.declared.state.Undo.{Undo}
use Rattle.ed_rules.specs.declared.state.State.{State}
use Rattle.ed_rules.specs.Choices.{has_choice}
use Rattle.ed_rules.specs.Marks.{is_sure}
use Rattle.ed_rules.specs.Matched.{AreMatched}
use Rattle.ed_rules.specs.facts.Facts.{FactsHold}

-- the numbers are those of these lines and this current line: each sure letter marks a line, and its number is that line's
pub record Reads (marks : List Bool) (lines : List Line) (current : ℕ) (number : Numbers) : Type 0 where
  pub zero_is : number name.zero ≡ pos 0
  pub current_is : number name.current_line ≡ pos current
  pub last_is : number name.last_line ≡ pos (length lines)
  pub marks_are : (letter : ℕ) → letter < 26 → is_sure marks letter ≡ true →
      (place : ℕ) × (marked_place letter lines ≡ Some place) × (number (mark letter) ≡ pos (place + 1))

-- the zone and the sure marks hold of lines and a current line among them, by these numbers
pub record HoldsBy (zone : Bounds) (marks : List Bool) (lines : List Line) (current : ℕ) (number : Numbers) : Type 0 where
  pub holds : Holds zone number
  pub reads : Reads marks lines current number
  pub inside : current ≤ length lines

-- a part that ends a line where it comes: a split, or a newline as a byte, which no script has
abbrev pub ends_line : Part → Bool
ends_line (Literal byte) = nat_eq byte newline
ends_line Split = true
ends_line _ = false

-- which replacement is remembered
abbrev pub allows_replacement : Replacements → Option (List Part) → Bool
allows_replacement kinds None = kinds.none
allows_replacement kinds (Some parts) = if list_any ends_line parts then kinds.split else kinds.plain

-- whether the buffer is changed
abbrev pub allows_change : Changed → Bool → Bool
allows_change flag true = flag.yes
allows_change flag false = flag.no

-- what undo keeps: the old zone, the old sure marks and what is known of single old lines hold of an earlier buffer, for numbers of its own
abbrev pub AllowsKept : Option Old → Kept → Type 0
AllowsKept None kept = ⊥
AllowsKept (Some old) kept =
    (number : Numbers) × HoldsBy old.zone old.marks kept.lines kept.current number × FactsHold old.facts number kept.lines

abbrev pub AllowsPast : Undo → Past → Type 0
AllowsPast undo Nothing = undo.nothing ≡ true
AllowsPast undo Same = undo.same ≡ true
AllowsPast undo (Was kept) = AllowsKept undo.was kept

-- the remembered pattern, replacement and path are among the possible ones
abbrev pub Remembers : State → editor.State → Type 0
Remembers s e =
    (has_choice s.patterns e.pattern ≡ true) × (allows_replacement s.replacements e.replacement ≡ true) × (has_choice s.names e.name ≡ true)

-- all that a state says is true of the editor's, by these numbers, but for what it says of single lines and of matches
pub record StandsBy (s : State) (e : editor.State) (number : Numbers) : Type 0 where
  pub buffer : HoldsBy s.zone s.marks e.lines e.current number
  pub remembered : Remembers s e
  pub changed : allows_change s.changed e.changed ≡ true
  pub past : AllowsPast s.undo e.past

-- lines as an editor has them: none holds a newline, of each it is known which letters mark it, and each letter marks one line at most
pub record AreLettered (lines : List Line) : Type 0 where
  pub whole : AreWhole lines
  pub known : KnowLetters lines
  pub once : AtMostOnce lines

-- so are the lines that undo would bring back
abbrev pub KeepsLettered : Past → Type 0
KeepsLettered past = OfPast AreLettered past

-- what undo keeps has a line that matches each of these patterns
abbrev pub KeepsMatched : (patterns : List (List ℕ)) → Past → Type 0
KeepsMatched patterns past = OfPast (AreMatched patterns) past

-- what is known of matches is true of these lines, and of those that undo would bring back
abbrev pub MatchesHold : Matches → List Line → Past → Type 0
MatchesHold m lines past = AreMatched m.has lines × KeepsMatched m.old_has past

-- a state stands for an editor's of which all that it says is true, for some numbers of the names that it says nothing of
pub record StandsFor (s : State) (e : editor.State) : Type 0 where
  pub numbers : Numbers
  pub stands : StandsBy s e numbers
  pub lines : AreLettered e.lines
  pub kept : KeepsLettered e.past
  pub matches : MatchesHold s.matches e.lines e.past
  pub facts : FactsHold s.facts numbers e.lines
