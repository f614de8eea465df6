use Rattle.std.proofs.Common.{◌≡◌, false, ◌||◌, drop, map}
use Rattle.std.specs.List.{list_any}
use Rattle.ed_syntax.specs.PublicTypes.{command_value}
use Rattle.remarks.specs.declared.slip.Slip.{Slip}
use Rattle.remarks.specs.Shown.{command_shows, is_open}
use Rattle.remarks.specs.Told.{tells}
use Rattle.remarks.specs.Adding.{Adds}
use Rattle.remarks.proofs.remarking.tell_of_listed.Given as goal

-- what was told, and what is left to be told
abbrev pub invariant-loop-index : goal.invariant-loop-index
invariant-loop-index l = record {
  told :
      (kind : Slip) → is_open kind ≡ false →
      (list_any (command_shows l.spot.is_high kind) (map command_value (drop l.index l.list)) || tells kind l.found.items)
      ≡ (list_any (command_shows l.spot.is_high kind) (map command_value l.list) || tells kind l.fn.found.items);
  appended : Adds l.fn.found.items l.found.items;
}
