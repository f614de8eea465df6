-- What a script shows that people hardly mean, and what is remarked of it (our own).
use Rattle.std.specs.Prelude.{ℕ, Bool, true, false, ◌&&◌, ◌||◌, List, [], ◌∷◌, Option, Some, None}
use Rattle.std.specs.List.{list_any}
use Rattle.ed_syntax.specs.Commands as ed
use Rattle.ed_syntax.specs.Commands.{Base, Address, Addresses, Without, One, Comma, Semicolon, Command, Step, Script}
use Rattle.ed_syntax.specs.meaning.Verbs.{takes}
use Rattle.remarks.specs.declared.slip.Slip.{Slip}
use Rattle.remarks.specs.declared.slip.Slip.TheVariants as slip
use Rattle.remarks.specs.Parts.{parts_of}
use Rattle.remarks.specs.Patterns.{pattern_shows}
use Rattle.remarks.specs.Ranges.{is_counted_from_current, is_backward}
use Rattle.remarks.specs.Steps.{may_leave_none, inserts_at_first, writes_nothing}

-- WHAT A COMMAND SHOWS

-- the two addresses before a command, each of which may be missing
abbrev pub pair_of : Addresses → Option Address × Option Address
pair_of Without = (None, None)
pair_of (One a) = (Some a, None)
pair_of (Comma a b) = (Some a, Some b)
pair_of (Semicolon a b) = (Some a, b)

-- the pattern for which a base looks
abbrev pub looked_for : Base → Option (List ℕ)
looked_for (ed.Forward pattern) = pattern
looked_for (ed.Backward pattern) = pattern
looked_for _ = None

-- the pattern for which an address looks, where there is one
abbrev pub sought : Option Address → Option (List ℕ)
sought None = None
sought (Some a) = looked_for a.base

-- a pattern shows it, where there is one
abbrev pub text_shows : (high : Bool) → Slip → Option (List ℕ) → Bool
text_shows high kind None = false
text_shows high kind (Some text) = pattern_shows kind high (parts_of text)

-- the patterns of a command: those for which its addresses look, its own, and that for which its target looks
abbrev pub patterns_of : Command → List (Option (List ℕ))
patterns_of c = sought (pair_of c.addresses).0 ∷ sought (pair_of c.addresses).1 ∷ (takes c.verb).pattern ∷ sought (takes c.verb).target ∷ []

-- the addresses of a command show it
abbrev pub range_shows : Slip → Command → Bool
range_shows slip.CountedFromCurrentLine c = is_counted_from_current c.addresses
range_shows slip.BackwardRange c = is_backward c
range_shows _ c = false

-- a command shows it, its list aside
abbrev pub command_shows : (high : Bool) → Slip → Command → Bool
command_shows high kind c = list_any (text_shows high kind) (patterns_of c) || range_shows kind c

-- a step shows it, or a command of its list
abbrev pub step_shows : (high : Bool) → Slip → Step → Bool
step_shows high kind x = command_shows high kind x.command || list_any (command_shows high kind) x.list

-- WHAT A SCRIPT SHOWS

-- a `1i` shows it where no line may be left
abbrev pub insert_shows : (emptied : Bool) → Slip → Step → Bool
insert_shows emptied slip.InsertBeforeNoLine x = emptied && inserts_at_first x
insert_shows emptied _ x = false

-- One of the steps shows it, before the first of which no line may be left or some surely are.
abbrev pub steps_show : (high emptied : Bool) → Slip → List Step → Bool
steps_show high emptied kind [] = false
steps_show high emptied kind (x ∷ xs) =
    (step_shows high kind x || insert_shows emptied kind x) || steps_show high (may_leave_none emptied x) kind xs

-- a script shows it as a whole
abbrev pub whole_shows : Slip → Script → Bool
whole_shows slip.NothingWritten script = writes_nothing script
whole_shows _ script = false

-- A script shows it by its commands alone. Of the kinds for which its bytes are looked at this is silent.
abbrev pub script_shows : (high : Bool) → Slip → Script → Bool
script_shows high kind script = whole_shows kind script || steps_show high false kind script.steps

-- kinds for which it is looked at whether a first address is left out
abbrev pub is_open : Slip → Bool
is_open slip.RangeFromLineOne = true
is_open slip.ListedRangeFromLineOne = true
is_open _ = false

-- kinds of what can't be read
abbrev pub is_unread : Slip → Bool
is_unread slip.CutLines = true
is_unread slip.NormalDiff = true
is_unread slip.UnifiedDiff = true
is_unread slip.ForwardDiff = true
is_unread _ = false

-- kinds for which the bytes of a script are looked at too
abbrev pub is_by_bytes : Slip → Bool
is_by_bytes kind = is_open kind || is_unread kind
