use Rattle.std.proofs.Common.{pos, Some, None, length-set, arith, ◌∙◌}
use Rattle.zones.specs.Steps.{after_forget, forget_bound}
use Rattle.zones.proofs.Places.{zone_by-each}
use Rattle.zones.proofs.Writes.{cross-is, raise-unbounded}
use Rattle.zones.proofs.table.forget_table.Goals as goal

pub returns : goal.returns
unfolding after_forget forget_bound
returns c =
    let old = c.args.table.now in
    let x = c.args.x in
    record {
      exact = rw c.of.ensures.value (zone_by-each (forget_bound old x) _ (length-set _ _ _ ∙ c.write_cross.ensures.size)
          (cross-is old _ x (Some (pos 0)) (λ q. None) (λ p. None) (omega arith) c.write_cross.ensures.size
          (λ q hq n. c.write_cross.ensures.row q hq n ∙ raise-unbounded _) (λ p hp n. c.write_cross.ensures.column p hp n ∙ raise-unbounded _)
          c.write_cross.ensures.others));
    }
