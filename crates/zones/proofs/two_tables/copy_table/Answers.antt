use Rattle.std.proofs.Common.{arith, ◌∙◌, sym, refl}
use Rattle.zones.specs.Zone.{bound}
use Rattle.zones.proofs.Places.{zone_by-each}
use Rattle.zones.proofs.RowWrites.{table-begun, table-row, table-reached}
use Rattle.zones.proofs.two_tables.copy_table.Goals as goal

pub loop-p-init : goal.loop-p-init
loop-p-init c = table-begun c.args.table.now _ c.told-table

pub loop-p-preserved : goal.loop-p-preserved
loop-p-preserved c =
    let p = c.loop-p.p in
    table-row c.args.table.now c.loop-p.table c.copy_row.new.table _ _ p c.args.most (omega arith) c.loop-p.invariant c.copy_row.ensures.written
    (λ b low hb. refl) (λ b high hb. c.requires.unknown.column p b high (omega arith) hb ∙ sym (c.requires.other_unknown.column p b high (omega arith) hb))

pub returns : goal.returns
returns c = record {
  exact = table-reached c.args.table.now c.loop-p.table _ c.loop-p.p c.loop-p.invariant
      (λ a b high ha hb. c.requires.unknown.row a b (omega (arith, high)) ha hb ∙ sym (c.requires.other_unknown.row a b (omega (arith, high)) ha hb))
      ∙ sym (zone_by-each (bound c.args.other.now) c.args.other.now c.told-other (λ p q hp hq. refl));
}
