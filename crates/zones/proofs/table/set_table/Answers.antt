use Rattle.std.proofs.Common.{pos, Some, length-set, arith, ◌∙◌}
use Rattle.std.proofs.lemmas.Int.{to_z-of_z}
use Rattle.zones.specs.Bound.{raise, lower}
use Rattle.zones.specs.Zone.{bound}
use Rattle.zones.specs.Steps.{after_set, set_bound}
use Rattle.zones.proofs.Places.{zone_by-each}
use Rattle.zones.proofs.Writes.{cross-is}
use Rattle.zones.proofs.table.set_table.Goals as goal

pub returns : goal.returns
unfolding after_set set_bound
returns c =
    let old = c.args.table.now in
    let x = c.args.x in
    let y = c.args.y in
    let number = c.args.c in
    record {
      exact = rw c.of.ensures.value (zone_by-each (set_bound old x y number) _ (length-set _ _ _ ∙ c.write_cross.ensures.size)
          (cross-is old _ x (Some (pos 0)) (λ q. raise (bound old y q) (Some number)) (λ p. lower (bound old p y) (Some number))
          (omega arith) c.write_cross.ensures.size
          (simp (to_z-of_z _ _ c.ranges.c) at c.write_cross.ensures.row)
          (simp (to_z-of_z _ _ c.ranges.c) at c.write_cross.ensures.column)
          c.write_cross.ensures.others));
    }
