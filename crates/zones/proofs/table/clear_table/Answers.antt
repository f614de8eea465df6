use Rattle.std.proofs.Common.{arith, refl}
use Rattle.zones.specs.Steps.{any_zone}
use Rattle.zones.proofs.RowWrites.{table-begun, table-row, table-reached}
use Rattle.zones.proofs.table.clear_table.Goals as goal

pub loop-p-init : goal.loop-p-init
loop-p-init c = table-begun c.args.table.now _ c.told-table

pub loop-p-preserved : goal.loop-p-preserved
loop-p-preserved c =
    table-row c.args.table.now c.loop-p.table c.clear_row.new.table _ _ c.loop-p.p c.args.most (omega arith) c.loop-p.invariant c.clear_row.ensures.written
    (λ b low hb. refl) (λ b high hb. c.requires.unknown.column c.loop-p.p b high (omega arith) hb)

pub returns : goal.returns
unfolding any_zone
returns c = record {
  exact = table-reached c.args.table.now c.loop-p.table _ c.loop-p.p c.loop-p.invariant (λ a b high ha hb. c.requires.unknown.row a b (omega (arith, high)) ha hb);
}
