-- The rule of `u` (XCU ed, "Undo Command").
use Rattle.std.specs.Prelude.{Bool, true, false, not, Option, Some, None, if◌then◌else◌, Result}
use Rattle.ed_base.specs.declared.fault.Fault.{Fault}
use Rattle.ed_base.specs.declared.fault.Fault.TheVariants as fault
use Rattle.ed_rules.specs.declared.state.Old.{Old}
use Rattle.ed_rules.specs.declared.state.State.{State}
use Rattle.ed_rules.specs.States.{changed, undo_to}
use Rattle.ed_rules.specs.Order.{join}
use Rattle.ed_rules.specs.Pieces.{needing, without_addresses}
use Rattle.ed_rules.specs.FactsAfter.{facts_ended}
use Rattle.ed_rules.specs.facts.Facts.{no_facts}

-- The present buffer, as undo keeps it. Addresses, which no script has before `u`, are forgotten; without them this changes nothing.
abbrev pub present_of : State → Old
present_of s = record {
  zone = without_addresses s.zone;
  marks = s.marks;
  facts = if s.follows then facts_ended s.marks s.facts else no_facts;
}

-- An earlier buffer is the present one again with what was known of its lines, and undo finds the one in whose place it came. The buffer is
-- changed, also where it was saved.
abbrev pub brought_back : Old → State → State
brought_back old s = record s { zone = old.zone; marks = old.marks; changed = changed; undo = undo_to (present_of s); facts = old.facts }

-- by what undo may find: the buffer as it is, an earlier one, or either
abbrev pub undone_by : (same : Bool) → (was : Option Old) → State → State
undone_by same None s = s
undone_by true (Some old) s = join s (brought_back old s)
undone_by false (Some old) s = brought_back old s

-- `u`
abbrev pub undone : State → Result State Fault
undone s = needing (not s.undo.nothing) fault.Undo (undone_by s.undo.same s.undo.was s)
