use Rattle.std.proofs.Common.{None, arith}
use Rattle.std.proofs.lemmas.List.{get_or_default}
use Rattle.zones.specs.Zone.{bound}
use Rattle.zones.proofs.RowWrites.{row-begun, row-next}
use Rattle.zones.proofs.two_tables.copy_row.Goals as goal

pub loop-q-init : goal.loop-q-init
loop-q-init c = row-begun c.args.table.now _ c.args.p c.told-table

pub loop-q-preserved : goal.loop-q-preserved
unfolding bound
loop-q-preserved c =
    row-next c.args.table.now c.loop-q.table _ c.args.p c.loop-q.q _ c.requires.p_in_range (omega arith) c.loop-q.invariant
    (get_or_default c.args.other.now _ _ None (omega arith))
