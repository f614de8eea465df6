use Rattle.std.proofs.Common.{arith, ◌∙◌, ap, sym}
use Rattle.zones.specs.Zone.{bound}
use Rattle.zones.specs.Merging.{merge_bound}
use Rattle.zones.proofs.Merging.{merge-unknown, merged-by}
use Rattle.zones.proofs.RowWrites.{table-begun, table-row, table-reached}
use Rattle.zones.proofs.two_tables.merge_table.Goals as goal

pub loop-p-init : goal.loop-p-init
loop-p-init c = table-begun c.args.table.now _ c.told-table

pub loop-p-preserved : goal.loop-p-preserved
loop-p-preserved c =
    let old = c.args.table.now in
    let other = c.args.other.now in
    let merge = c.args.merge in
    let p = c.loop-p.p in
    table-row old c.loop-p.table c.merge_row.new.table _ _ p c.args.most (omega arith) c.loop-p.invariant c.merge_row.ensures.written
    (λ b low hb. ap (λ one. merge_bound merge p b one (bound other p b)) (c.loop-p.invariant.rest p (omega arith) (omega arith) b hb))
    (λ b high hb.
    let here = c.requires.unknown.column p b high (omega arith) hb in
    here ∙ sym (merge-unknown merge old other p b here (c.requires.other_unknown.column p b high (omega arith) hb)))

pub returns : goal.returns
returns c =
    let old = c.args.table.now in
    let other = c.args.other.now in
    let merge = c.args.merge in
    record {
      exact = table-reached old c.loop-p.table _ c.loop-p.p c.loop-p.invariant
          (λ a b high ha hb.
          let here = c.requires.unknown.row a b (omega (arith, high)) ha hb in
          here ∙ sym (merge-unknown merge old other a b here (c.requires.other_unknown.row a b (omega (arith, high)) ha hb)))
          ∙ merged-by merge old other;
    }
