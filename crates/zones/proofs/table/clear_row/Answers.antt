use Rattle.std.proofs.Common.{arith}
use Rattle.zones.proofs.RowWrites.{row-begun, row-next}
use Rattle.zones.proofs.table.clear_row.Goals as goal

pub loop-q-init : goal.loop-q-init
loop-q-init c = row-begun c.args.table.now _ c.args.p c.told-table

pub loop-q-preserved : goal.loop-q-preserved
loop-q-preserved c =
    row-next c.args.table.now c.loop-q.table _ c.args.p c.loop-q.q c.any_of.result c.requires.p_in_range (omega arith) c.loop-q.invariant c.any_of.ensures.value
