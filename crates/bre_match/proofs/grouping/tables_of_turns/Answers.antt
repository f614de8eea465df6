use Rattle.std.proofs.Common.{◌++◌, ◌∷◌, [], length, refl, ap, ◌∙◌, arith}
use Rattle.bre_parse.specs.Tree.{tree_of}
use Rattle.bre_match.specs.Parts.{part_of}
use Rattle.bre_match.proofs.RowTables.{grown}
use Rattle.bre_match.proofs.TurnTables.{turns_begun, turns_next, turns_told}
use Rattle.bre_match.proofs.grouping.tables_of_turns.Goals as goal

pub loop-told-init : goal.loop-told-init
loop-told-init c =
    let all = c.in_ok-push.ensures.items ∙ ap (λ l. l ++ c.in_ok-further.further ∷ []) c.new-tables.ensures.items in
    record {
      size = ap length all;
      made = λ order. turns_begun (part_of (tree_of c.args.content.now)) c.args.least c.args.most c.args.text.now c.args.low c.args.high c.push.new.self.items c.in_ok-further.further all (c.in_ok-further.ensures.value order c.args.least);
    }

pub loop-told-preserved : goal.loop-told-preserved
loop-told-preserved c =
    let size = c.loop-told.invariant.size in
    record {
      size = ap length c.in_ok-push-2.ensures.items ∙ grown c.loop-told.tables.items c.in_ok-table.table c.loop-told.told size;
      made = λ order.
          turns_next (part_of (tree_of c.args.content.now)) c.args.least c.args.most c.args.text.now c.args.low c.args.high c.loop-told.told c.told_turns-turns.result _ c.loop-told.tables.items c.push-in-loop-told.new.self.items c.index.result.now c.in_ok-table.table c.deref.result.now c.told_turns-turns.ensures.value c.deref.ensures.value (c.loop-told.invariant.made order) c.loop-told-test.true refl c.index.ensures c.in_ok-push-2.ensures.items (c.in_ok-table.ensures.value order);
    }

pub returns : goal.returns
returns c =
    let n = c.told_turns-turns.ensures.value in
    let f = c.loop-told-test.false in
    let size = c.loop-told.invariant.size in
    record {
      size = omega arith;
      value = λ order. turns_told (part_of (tree_of c.args.content.now)) c.args.least c.args.most c.args.text.now c.args.low c.args.high c.loop-told.told c.loop-told.tables.items (c.loop-told.invariant.made order) (omega arith);
    }
