use Rattle.std.proofs.Common.{◌≡◌, false, ◌||◌, drop, map}
use Rattle.ed_syntax.specs.PublicTypes.{step_value}
use Rattle.remarks.specs.declared.slip.Slip.{Slip}
use Rattle.remarks.specs.Parts.{has_high}
use Rattle.remarks.specs.Shown.{steps_show, is_open}
use Rattle.remarks.specs.Told.{tells}
use Rattle.remarks.specs.Adding.{Adds}
use Rattle.remarks.proofs.remarking.tell_of_steps.Given as goal

-- what was told, and what is left to be told
abbrev pub invariant-loop-index : goal.invariant-loop-index
invariant-loop-index l = record {
  told :
      (kind : Slip) → is_open kind ≡ false →
      (steps_show (has_high l.script) l.is_emptied kind (map step_value (drop l.index l.commands)) || tells kind l.found.items)
      ≡ (steps_show (has_high l.script) false kind (map step_value l.commands) || tells kind l.fn.found.items);
  appended : Adds l.fn.found.items l.found.items;
}
