use Rattle.std.proofs.Common.{◌+◌, Bool, ◌||◌, List, map, drop, refl, ap, ◌∙◌}
use Rattle.ed_syntax.specs.declared.command.Command.{Command}
use Rattle.ed_syntax.specs.PublicTypes.{step_value}
use Rattle.remarks.specs.Parts.{has_high}
use Rattle.remarks.specs.Steps.{may_leave_none}
use Rattle.remarks.specs.Shown.{step_shows, insert_shows, steps_show}
use Rattle.remarks.specs.Told.{tells}
use Rattle.remarks.proofs.OrLemmas.{told_more}
use Rattle.remarks.proofs.TellLemmas.{adds_then}
use Rattle.remarks.proofs.remarking.tell_of_steps.Goals as goal

pub loop-index-preserved : goal.loop-index-preserved
loop-index-preserved c = record {
  told = λ kind closed.
      let high : Bool = has_high c.args.script.now in
      let one : Command = c.index-commands-index.result in
      let show : Bool → List Command → Bool = λ emptied commands. steps_show high emptied kind (map step_value commands) in
      let emptied : Bool = may_leave_none c.loop-index.is_emptied (step_value one) in
      let old : Bool = tells kind c.loop-index.found.items in
      let new : Bool = tells kind c.tell_of_step.new.found.items in
      ap (λ (left : Bool). show left (drop (c.loop-index.index + 1) c.args.commands.now) || new) c.may_leave_none-is_emptied.ensures.value
      ∙ told_more (show c.loop-index.is_emptied) (show emptied)
      (step_shows high kind (step_value one) || insert_shows c.loop-index.is_emptied kind (step_value one))
      c.args.commands.now c.loop-index.index one one old new (λ rest. refl) c.loop-index-test.true c.index-commands-index.is
      (c.in_ok-tell_of_step.ensures.told kind closed
      ∙ ap (λ b. (step_shows b kind (step_value one) || insert_shows c.loop-index.is_emptied kind (step_value one)) || old) c.has_high-is_high.ensures.value)
      ∙ c.loop-index.invariant.told kind closed;
  appended =
      adds_then c.loop-index.invariant.appended c.in_ok-tell_of_step.ensures.appended;
}
