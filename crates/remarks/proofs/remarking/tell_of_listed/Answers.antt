use Rattle.std.proofs.Common.{Bool, ◌||◌, List, map, refl, ap, ◌∙◌}
use Rattle.std.specs.List.{list_any}
use Rattle.ed_syntax.specs.declared.command.Command.{Command}
use Rattle.ed_syntax.specs.PublicTypes.{command_value}
use Rattle.remarks.specs.Shown.{command_shows}
use Rattle.remarks.specs.Told.{tells}
use Rattle.remarks.proofs.OrLemmas.{told_more}
use Rattle.remarks.proofs.TellLemmas.{adds_then}
use Rattle.remarks.proofs.remarking.tell_of_listed.Goals as goal

pub loop-index-preserved : goal.loop-index-preserved
loop-index-preserved c = record {
  told = λ kind closed.
      let any : List Command → Bool = λ list. list_any (command_shows c.args.spot.is_high kind) (map command_value list) in
      let one : Command = c.index-list-index.result in
      let old : Bool = tells kind c.loop-index.found.items in
      told_more any any (command_shows c.args.spot.is_high kind (command_value one)) c.args.list.now c.loop-index.index one one old
      (tells kind c.tell_of_command.new.found.items) (λ rest. refl) c.loop-index-test.true c.index-list-index.is
      (c.in_ok-tell_of_command.ensures.told kind closed
      ∙ ap (λ high. command_shows high kind (command_value one) || old) c.listed_spot.ensures.high)
      ∙ c.loop-index.invariant.told kind closed;
  appended =
      adds_then c.loop-index.invariant.appended c.in_ok-tell_of_command.ensures.appended;
}
