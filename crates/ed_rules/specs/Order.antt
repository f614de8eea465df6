-- Joining, widening and comparing states: the joined state says what both say, and one covers another that says no less.
use Rattle.std.specs.Prelude.{◌≡◌, true, Bool, ◌||◌, List, Option, Some, None}
use Rattle.zones.specs.Zone as zones
use Rattle.zones.specs.Zone.{Bounds}
use Rattle.zones.specs.Steps.{join_of, widening_of}
use Rattle.ed_rules.specs.declared.state.Old.{Old}
use Rattle.ed_rules.specs.declared.state.Changed.{Changed}
use Rattle.ed_rules.specs.declared.state.Replacements.{Replacements}
use Rattle.ed_rules.specs.declared.state.Undo.{Undo}
use Rattle.ed_rules.specs.declared.state.State.{State}
use Rattle.ed_rules.specs.Choices.{union, are_choices}
use Rattle.ed_rules.specs.Marks.{both_sure, AreAmong}
use Rattle.ed_rules.specs.KnownMatches.{matches_of_both, CoversMatches}
use Rattle.ed_rules.specs.Following.{spoken_facts}
use Rattle.ed_rules.specs.facts.Facts.{Facts}
use Rattle.ed_rules.specs.facts.FactOrder.{both_facts, cover_facts}

-- the facts that both sides say, of letters that are sure on both
abbrev pub facts_of_both : (marks : List Bool) → (one : Facts) → (zone : Bounds) → (other : Facts) → Facts
facts_of_both marks one zone other = spoken_facts marks (both_facts one zone other)

-- where one side has no earlier buffer, the other's stands
abbrev pub old_of_both : Option Old → Option Old → Option Old
old_of_both None other = other
old_of_both (Some one) None = Some one
old_of_both (Some one) (Some other) = Some (record {
  zone = join_of one.zone other.zone;
  marks = both_sure one.marks other.marks;
  facts = facts_of_both (both_sure one.marks other.marks) one.facts other.zone other.facts;
})

abbrev pub changed_of_both : Changed → Changed → Changed
changed_of_both one other = record { no = one.no || other.no; yes = one.yes || other.yes }

abbrev pub replacements_of_both : Replacements → Replacements → Replacements
replacements_of_both one other = record { none = one.none || other.none; plain = one.plain || other.plain; split = one.split || other.split }

abbrev pub undo_of_both : Undo → Undo → Undo
undo_of_both one other = record {
  nothing = one.nothing || other.nothing;
  same = one.same || other.same;
  was = old_of_both one.was other.was;
}

-- what both states allow, over a zone; single lines are followed where the first follows them: of one run both do or neither
abbrev pub united : State → State → Bounds → State
united one other zone = record {
  zone = zone;
  marks = both_sure one.marks other.marks;
  patterns = union one.patterns other.patterns;
  replacements = replacements_of_both one.replacements other.replacements;
  names = union one.names other.names;
  changed = changed_of_both one.changed other.changed;
  undo = undo_of_both one.undo other.undo;
  matches = matches_of_both one.undo.was other.undo.was one.matches other.matches;
  follows = one.follows;
  facts = facts_of_both (both_sure one.marks other.marks) one.facts other.zone other.facts;
}

-- the strongest state that says what both say
unfoldable pub join : State → State → State
join one other = united one other (join_of one.zone other.zone)

-- the same, but each bound that rose is given up
unfoldable pub widen : (old new : State) → State
widen old new = united old new (widening_of old.zone new.zone)

-- what the strong one allows the weak one allows
abbrev pub Allows : (weak strong : Bool) → Type 0
Allows weak strong = strong ≡ true → weak ≡ true

abbrev pub CoversOld : (weak strong : Option Old) → Type 0
CoversOld weak None = Unit {0}
CoversOld None (Some strong) = ⊥
CoversOld (Some weak) (Some strong) =
    zones.Covers weak.zone strong.zone × AreAmong weak.marks strong.marks × (cover_facts weak.facts strong.zone strong.facts ≡ true)

-- One state covers another: all that it says the other says too. Whether lines are followed says nothing of the editor.
pub record Covers (weak strong : State) : Type 0 where
  pub zone : zones.Covers weak.zone strong.zone
  pub marks : AreAmong weak.marks strong.marks
  pub patterns : are_choices strong.patterns weak.patterns ≡ true
  pub no_replacement : Allows weak.replacements.none strong.replacements.none
  pub plain_replacement : Allows weak.replacements.plain strong.replacements.plain
  pub split_replacement : Allows weak.replacements.split strong.replacements.split
  pub names : are_choices strong.names weak.names ≡ true
  pub unchanged : Allows weak.changed.no strong.changed.no
  pub changed : Allows weak.changed.yes strong.changed.yes
  pub nothing : Allows weak.undo.nothing strong.undo.nothing
  pub same : Allows weak.undo.same strong.undo.same
  pub was : CoversOld weak.undo.was strong.undo.was
  pub matches : CoversMatches strong.undo.was weak.matches strong.matches
  pub facts : cover_facts weak.facts strong.zone strong.facts ≡ true
