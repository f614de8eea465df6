use Rattle.std.proofs.Common.{◌+◌, ◌*◌, None, length-set, arith, ◌∙◌}
use Rattle.std.proofs.lemmas.List.{get_or_default}
use Rattle.zones.specs.Bound.{raise, lower}
use Rattle.zones.specs.Zone.{bound}
use Rattle.zones.specs.Steps.{after_shift, shift_bound}
use Rattle.zones.proofs.Places.{zone_by-each}
use Rattle.zones.proofs.Writes.{cross-is}
use Rattle.zones.proofs.table.shift_table.Goals as goal

pub returns : goal.returns
unfolding after_shift shift_bound bound
returns c =
    let old = c.args.table.now in
    let x = c.args.x in
    let low = c.args.low in
    let high = c.args.high in
    record {
      exact = rw (get_or_default old (32 * x + x) c.index-table-x.result None (omega arith))
          (zone_by-each (shift_bound old x low high) _ (length-set _ _ _ ∙ c.write_cross.ensures.size)
          (cross-is old _ x (bound old x x) (λ q. raise (bound old x q) high) (λ p. lower (bound old p x) low)
          (omega arith) c.write_cross.ensures.size c.write_cross.ensures.row c.write_cross.ensures.column c.write_cross.ensures.others));
    }
