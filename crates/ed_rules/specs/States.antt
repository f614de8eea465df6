-- The start of a run, and what a command surely leaves of flag and undo.
use Rattle.std.specs.Prelude.{ℕ, pos, neg_ℤ, true, false, List, [], ◌∷◌, Option, Some, None}
use Rattle.zones.specs.Name as name
use Rattle.zones.specs.Zone.{Bounds}
use Rattle.zones.specs.Steps.{any_zone, after_guard, after_set}
use Rattle.ed_rules.specs.declared.state.Old.{Old}
use Rattle.ed_rules.specs.declared.state.Changed.{Changed}
use Rattle.ed_rules.specs.declared.state.Replacements.{Replacements}
use Rattle.ed_rules.specs.declared.state.Undo.{Undo}
use Rattle.ed_rules.specs.declared.state.State.{State}
use Rattle.ed_rules.specs.Choices.{Choice}
use Rattle.ed_rules.specs.Marks.{no_marks}
use Rattle.ed_rules.specs.KnownMatches.{matches_of}
use Rattle.ed_rules.specs.facts.Facts.{no_facts}

-- surely unchanged, and surely changed
abbrev pub unchanged : Changed
unchanged = record { no = true; yes = false }

abbrev pub changed : Changed
changed = record { no = false; yes = true }

-- surely no replacement is remembered
abbrev pub no_replacement : Replacements
no_replacement = record { none = true; plain = false; split = false }

-- undo surely finds nothing, and surely an earlier buffer
abbrev pub nothing_to_undo : Undo
nothing_to_undo = record { nothing = true; same = false; was = None }

abbrev pub undo_to : Old → Undo
undo_to old = record { nothing = false; same = false; was = Some old }

-- the bounds, the sure marks and what is known of single lines, as undo keeps them
abbrev pub old_of : State → Old
old_of s = record { zone = s.zone; marks = s.marks; facts = s.facts }

-- nothing is known of single lines of an earlier buffer
abbrev pub old_without_facts : Option Old → Option Old
old_without_facts None = None
old_without_facts (Some old) = Some (record old { facts = no_facts })

-- a state that says nothing of single lines and doesn't follow them, and of all else says the same
abbrev pub without_facts : State → State
without_facts s = record s { undo = record s.undo { was = old_without_facts s.undo.was }; follows = false; facts = no_facts }

-- at most so many lines, where there is a limit
abbrev pub limited : Option ℕ → Bounds → Bounds
limited None zone = zone
limited (Some max) zone = after_guard zone name.last_line name.zero (pos max)

-- the start of a run: from min to max lines, of which some match these patterns, the last one current, and nothing remembered but a path;
-- single lines aren't followed
unfoldable pub start : (path : Choice) → (min : ℕ) → (max : Option ℕ) → (has : List (List ℕ)) → State
start path min max has = record {
  zone = after_set (limited max (after_guard any_zone name.zero name.last_line (neg_ℤ (pos min)))) name.current_line name.last_line (pos 0);
  marks = no_marks;
  patterns = None ∷ [];
  replacements = no_replacement;
  names = path ∷ [];
  changed = unchanged;
  undo = nothing_to_undo;
  matches = matches_of has;
  follows = false;
  facts = no_facts;
}
