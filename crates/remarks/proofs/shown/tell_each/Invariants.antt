use Rattle.std.proofs.Common.{◌≡◌, ◌&&◌, ◌||◌, drop}
use Rattle.std.specs.List.{list_any}
use Rattle.remarks.specs.declared.slip.Slip.{Slip}
use Rattle.remarks.specs.Patterns.{pattern_shows}
use Rattle.remarks.specs.Told.{same, tells}
use Rattle.remarks.specs.Adding.{Adds}
use Rattle.remarks.proofs.shown.tell_each.Given as goal

-- what was told, and what is left to be told
abbrev pub invariant-loop-slip : goal.invariant-loop-slip
invariant-loop-slip l = record {
  told :
      (kind : Slip) →
      (list_any (λ s. same kind s && pattern_shows s l.spot.is_high l.parts) (drop l.slip-index l.slips) || tells kind l.found.items)
      ≡ (list_any (λ s. same kind s && pattern_shows s l.spot.is_high l.parts) l.slips || tells kind l.fn.found.items);
  appended : Adds l.fn.found.items l.found.items;
}
