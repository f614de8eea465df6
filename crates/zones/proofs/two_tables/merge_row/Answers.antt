use Rattle.std.proofs.Common.{◌+◌, ◌*◌, None, get_or, arith, ◌∙◌, ap}
use Rattle.std.proofs.lemmas.List.{get_or_default}
use Rattle.zones.specs.Zone.{bound}
use Rattle.zones.specs.Merging.{merge_bound}
use Rattle.zones.proofs.RowWrites.{row-begun, row-next}
use Rattle.zones.proofs.two_tables.merge_row.Goals as goal

pub loop-q-init : goal.loop-q-init
loop-q-init c = row-begun c.args.table.now _ c.args.p c.told-table

pub loop-q-preserved : goal.loop-q-preserved
unfolding bound
loop-q-preserved c =
    let old = c.args.table.now in
    let other = c.args.other.now in
    let p = c.args.p in
    let q = c.loop-q.q in
    let before = get_or_default c.loop-q.table _ c.index-table-p.result None (omega (arith, c.loop-q.invariant.size)) ∙ c.loop-q.invariant.rest q (omega arith) (omega arith) in
    row-next old c.loop-q.table _ p q c.merge_bound.result c.requires.p_in_range (omega arith) c.loop-q.invariant
    (c.merge_bound.ensures.value ∙ ap (λ b. merge_bound c.args.merge p q b (get_or other (32 * p + q) c.index-other-p.result)) before
    ∙ ap (merge_bound c.args.merge p q (bound old p q)) (get_or_default other _ c.index-other-p.result None (omega arith)))
