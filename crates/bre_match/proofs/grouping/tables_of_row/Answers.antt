use Rattle.std.proofs.Common.{◌++◌, ◌∷◌, [], ◌-◌, length, arith, ap, ◌∙◌}
use Rattle.bre_match.proofs.RowTables.{row_begun, row_next, row_told, order_item, grown}
use Rattle.bre_match.proofs.grouping.tables_of_row.Goals as goal

pub loop-told-init : goal.loop-told-init
loop-told-init c =
    let all = c.in_ok-push.ensures.items ∙ ap (λ l. l ++ c.new.result ∷ []) c.new-tables.ensures.items in
    record {
      size = ap length all;
      made = λ order. row_begun c.args.items.now c.args.text.now c.args.low c.args.high c.push.new.self.items c.new.result c.new.ensures.items all;
    }

pub loop-told-preserved : goal.loop-told-preserved
loop-told-preserved c =
    let size = c.loop-told.invariant.size in
    record {
      size = ap length c.in_ok-push-2.ensures.items ∙ grown c.loop-told.tables.items c.in_ok-table.table c.loop-told.told size;
      made = λ order.
          row_next c.args.items.now c.args.text.now c.args.low c.args.high c.loop-told.told c.loop-told.tables.items c.push-in-loop-told.new.self.items c.index.result.now c.in_ok-table.table c.deref.result.now c.index-items-item.result c.deref.ensures.value (c.loop-told.invariant.made order) c.loop-told-test.true c.index-items-item.is c.index.ensures c.in_ok-push-2.ensures.items
          (c.in_ok-table.ensures.value (order_item c.args.items.now (length c.args.items.now - 1 - c.loop-told.told) c.index-items-item.result order (omega arith) c.index-items-item.is));
    }

pub returns : goal.returns
returns c = record {
  size = let n = c.loop-told.invariant.size in let f = c.loop-told-test.false in let g = c.loop-told.auto in omega arith;
  value = λ order. row_told c.args.items.now c.args.text.now c.args.low c.args.high c.loop-told.told c.loop-told.tables.items (c.loop-told.invariant.made order) c.loop-told-test.false;
}
