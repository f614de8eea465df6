use Rattle.std.proofs.Common.{Some, None, get_or, arith, sym, ap, ◌∙◌}
use Rattle.bre_parse.specs.Tree.{tree_of, sequence_of}
use Rattle.bre_parse.specs.WellFormed.{bounds_in_order, repeats_in_order}
use Rattle.bre_parse.proofs.Sequences.{tree_of-Sequence}
use Rattle.bre_match.specs.Parts.{part_of}
use Rattle.bre_match.proofs.Columns.{forth}
use Rattle.bre_match.proofs.FirstWay.{first_in_group}
use Rattle.bre_match.proofs.Groupless.{groupless_way}
use Rattle.bre_match.proofs.RowTables.{item_end, item_leads, row_never_ends, row_read_begun, row_read_next, row_read_done, low_within}
use Rattle.bre_match.proofs.TurnTables.{turn_end, turn_leads, repeat_begun, repeat_next, repeat_idle, repeat_idle_first, repeat_over, never_so_many, repeat_forth, content_leads}
use Rattle.bre_match.proofs.TreeReach.{both_right}
use Rattle.bre_match.proofs.grouping.+groups.Goals as goal

pub set_groups-returns-then-is_groupless : goal.set_groups-returns-then-is_groupless
set_groups-returns-then-is_groupless t c = record {
  value = λ l.
      groupless_way (tree_of c.args.part.now) c.args.text.now c.args.low c.args.high c.args.groups.now (c.is_groupless.ensures.none c.if-is_groupless.true) l.free l.in_order (low_within (part_of (tree_of c.args.part.now)) c.args.text.now c.args.low c.args.high l.within l.there) l.there;
}

pub set_groups-returns-in_ok-set_row-in-Sequence : goal.set_groups-returns-in_ok-set_row-in-Sequence
set_groups-returns-in_ok-set_row-in-Sequence t c = record {
  value = rw (c.in-Sequence.is, tree_of-Sequence, ← c.deref.ensures.value) c.in_ok-set_row-in-Sequence.ensures.value;
}

pub set_groups-returns-in_ok-set_groups-in-Group : goal.set_groups-returns-in_ok-set_groups-in-Group
set_groups-returns-in_ok-set_groups-in-Group t c = record {
  value = λ l.
      let known = rw c.in-Group.is at l in
      let inner = rw c.deref-in-Group.ensures at c.in_ok-set_groups-in-Group.ensures.value in
      rw c.in-Group.is
      (rw c.set_group.ensures.value
      (first_in_group c.in-Group.group c.args.low c.args.high _ _ (inner (content_leads c.in-Group.group (tree_of c.in-Group.content.value) c.args.text.now c.args.low c.args.high known))));
}

pub set_row-returns-then-all_groupless : goal.set_row-returns-then-all_groupless
set_row-returns-then-all_groupless t c = record {
  value = λ l.
      groupless_way (sequence_of c.args.items.now) c.args.text.now c.args.low c.args.high c.args.groups.now (c.all_groupless.ensures.none c.if-all_groupless.true) l.free l.in_order (low_within (part_of (sequence_of c.args.items.now)) c.args.text.now c.args.low c.args.high l.within l.there) l.there;
}

pub set_row-returns-then-is_outside : goal.set_row-returns-then-is_outside
set_row-returns-then-is_outside t c = record {
  value = λ l.
      let no = c.is_outside.ensures.exact.1 (forth (part_of (sequence_of c.args.items.now)) c.args.text.now c.args.low c.args.high l.there, l.within) in
      absurd (let yes = c.if-is_outside.true in cc);
}

pub set_row-loop-item-init : goal.set_row-loop-item-init
set_row-loop-item-init t c l = row_read_begun c.args.items.now c.args.text.now c.args.low c.args.high c.args.groups.now l.there

pub set_row-returns-in_default : goal.set_row-returns-in_default
set_row-returns-in_default t c = record {
  value = λ l.
      absurd (row_never_ends c.args.items.now c.args.text.now c.args.low c.args.high c.loop-item.item c.loop-item.place c.args.groups.now c.loop-item.groups c.in_ok-tables.tables.items c.deref.result.now c.end_told.result (c.in_ok-tables.ensures.value l.in_order) c.deref.ensures.value (c.loop-item.invariant l) c.loop-item-test.true (λ table told. c.end_told.ensures.value table told ∙ ap (λ z. get_or table.items z None) c.saturating_sub-distance.ensures) c.in_default.is);
}

pub set_row-loop-item-preserved : goal.set_row-loop-item-preserved
set_row-loop-item-preserved t c l =
    let last = item_end c.args.items.now c.args.text.now c.args.low c.args.high c.loop-item.item c.loop-item.place c.args.groups.now c.loop-item.groups c.in_ok-tables.tables.items c.deref.result.now c.index-items-item.result (Some c.in-Some.left) (c.in_ok-tables.ensures.value l.in_order) c.deref.ensures.value (c.loop-item.invariant l) c.loop-item-test.true c.index-items-item.is (λ table told. sym c.in-Some.is ∙ c.end_told.ensures.value table told ∙ ap (λ z. get_or table.items z None) c.saturating_sub-distance.ensures) in
    row_read_next c.args.items.now c.args.text.now c.args.low c.args.high c.loop-item.item c.loop-item.place c.in-Some.left c.saturating_sub-end.result c.args.groups.now c.loop-item.groups c.set_groups.new.groups c.index-items-item.result l.free l.in_order l.within (c.loop-item.invariant l) c.loop-item-test.true c.index-items-item.is last c.saturating_sub-end.ensures
    (c.in_ok-set_groups.ensures.value (item_leads c.args.items.now c.args.text.now c.args.low c.args.high c.loop-item.item c.loop-item.place c.in-Some.left c.saturating_sub-end.result c.index-items-item.result l c.loop-item-test.true c.index-items-item.is last c.saturating_sub-end.ensures))

pub set_row-returns : goal.set_row-returns
set_row-returns t c = record {
  value = λ l. row_read_done c.args.items.now c.args.text.now c.args.low c.args.high c.loop-item.item c.loop-item.place c.args.groups.now c.loop-item.groups c.loop-item-test.false (c.loop-item.invariant l);
}

pub set_turns-returns-then-is_outside : goal.set_turns-returns-then-is_outside
set_turns-returns-then-is_outside t c = record {
  value = λ l.
      let no = c.is_outside.ensures.exact.1 (repeat_forth (tree_of c.args.content.now) c.args.least c.args.most c.args.text.now c.args.low c.args.high l, l.within) in
      absurd (let yes = c.if-is_outside.true in cc);
}

pub set_turns-loop-done-init : goal.set_turns-loop-done-init
set_turns-loop-done-init t c l = repeat_begun (tree_of c.args.content.now) c.args.text.now c.args.least c.args.most c.args.low c.args.high c.args.groups.now l

pub set_turns-returns-in_default : goal.set_turns-returns-in_default
set_turns-returns-in_default t c = record {
  value = λ l.
      repeat_over (tree_of c.args.content.now) c.args.text.now c.args.least c.args.most c.args.low c.args.high c.loop-done.done c.loop-done.place c.args.groups.now c.loop-done.groups l (c.loop-done.invariant l)
      (turn_end (tree_of c.args.content.now) c.args.text.now c.args.least c.args.most c.args.low c.args.high c.loop-done.done c.loop-done.place c.saturating_sub-number.result c.told_turns-turns.result c.args.groups.now c.loop-done.groups c.in_ok-tables.tables.items c.deref.result.now None (c.in_ok-tables.ensures.value (both_right (bounds_in_order c.args.least c.args.most) (repeats_in_order (tree_of c.args.content.now)) l.in_order)) c.deref.ensures.value (c.loop-done.invariant l) c.told_turns-turns.ensures.value c.saturating_sub-number.ensures (λ table told. sym c.in_default.is ∙ c.end_told.ensures.value table told ∙ ap (λ z. get_or table.items z None) c.saturating_sub-distance.ensures));
}

pub set_turns-returns-then-done-gt0 : goal.set_turns-returns-then-done-gt0
set_turns-returns-then-done-gt0 t c = record {
  value = λ l.
      repeat_idle (tree_of c.args.content.now) c.args.text.now c.args.least c.args.most c.args.low c.args.high c.loop-done.done c.loop-done.place c.in-Some.left c.saturating_sub-end.result c.is_idle.result c.args.groups.now c.loop-done.groups l (c.loop-done.invariant l)
      (turn_end (tree_of c.args.content.now) c.args.text.now c.args.least c.args.most c.args.low c.args.high c.loop-done.done c.loop-done.place c.saturating_sub-number.result c.told_turns-turns.result c.args.groups.now c.loop-done.groups c.in_ok-tables.tables.items c.deref.result.now (Some c.in-Some.left) (c.in_ok-tables.ensures.value (both_right (bounds_in_order c.args.least c.args.most) (repeats_in_order (tree_of c.args.content.now)) l.in_order)) c.deref.ensures.value (c.loop-done.invariant l) c.told_turns-turns.ensures.value c.saturating_sub-number.ensures (λ table told. sym c.in-Some.is ∙ c.end_told.ensures.value table told ∙ ap (λ z. get_or table.items z None) c.saturating_sub-distance.ensures))
      c.saturating_sub-end.ensures c.is_idle.ensures.value c.if-is_idle.true c.if-done-gt0.true;
}

pub set_turns-returns-then-is_idle : goal.set_turns-returns-then-is_idle
set_turns-returns-then-is_idle t c = record {
  value = λ l.
      let last = turn_end (tree_of c.args.content.now) c.args.text.now c.args.least c.args.most c.args.low c.args.high c.loop-done.done c.loop-done.place c.saturating_sub-number.result c.told_turns-turns.result c.args.groups.now c.loop-done.groups c.in_ok-tables.tables.items c.deref.result.now (Some c.in-Some.left) (c.in_ok-tables.ensures.value (both_right (bounds_in_order c.args.least c.args.most) (repeats_in_order (tree_of c.args.content.now)) l.in_order)) c.deref.ensures.value (c.loop-done.invariant l) c.told_turns-turns.ensures.value c.saturating_sub-number.ensures (λ table told. sym c.in-Some.is ∙ c.end_told.ensures.value table told ∙ ap (λ z. get_or table.items z None) c.saturating_sub-distance.ensures) in
      repeat_idle_first (tree_of c.args.content.now) c.args.text.now c.args.least c.args.most c.args.low c.args.high c.loop-done.done c.loop-done.place c.in-Some.left c.saturating_sub-end.result c.is_idle.result c.args.groups.now c.loop-done.groups c.set_turn.new.groups l (c.loop-done.invariant l) last
      c.saturating_sub-end.ensures c.is_idle.ensures.value c.if-is_idle.true c.if-done-gt0.false
      (c.in_ok-set_turn.ensures.value (turn_leads (tree_of c.args.content.now) c.args.text.now c.args.least c.args.most c.args.low c.args.high c.loop-done.done c.loop-done.place c.in-Some.left c.saturating_sub-end.result l last c.saturating_sub-end.ensures));
}

pub set_turns-loop-done-preserved : goal.set_turns-loop-done-preserved
set_turns-loop-done-preserved t c l =
    let last = turn_end (tree_of c.args.content.now) c.args.text.now c.args.least c.args.most c.args.low c.args.high c.loop-done.done c.loop-done.place c.saturating_sub-number.result c.told_turns-turns.result c.args.groups.now c.loop-done.groups c.in_ok-tables.tables.items c.deref.result.now (Some c.in-Some.left) (c.in_ok-tables.ensures.value (both_right (bounds_in_order c.args.least c.args.most) (repeats_in_order (tree_of c.args.content.now)) l.in_order)) c.deref.ensures.value (c.loop-done.invariant l) c.told_turns-turns.ensures.value c.saturating_sub-number.ensures (λ table told. sym c.in-Some.is ∙ c.end_told.ensures.value table told ∙ ap (λ z. get_or table.items z None) c.saturating_sub-distance.ensures) in
    repeat_next (tree_of c.args.content.now) c.args.text.now c.args.least c.args.most c.args.low c.args.high c.loop-done.done c.loop-done.place c.in-Some.left c.saturating_sub-end.result c.is_idle.result c.args.groups.now c.loop-done.groups c.set_turn-in-loop-done.new.groups l (c.loop-done.invariant l) last
    c.saturating_sub-end.ensures c.is_idle.ensures.value c.if-is_idle.false
    (c.in_ok-set_turn-2.ensures.value (turn_leads (tree_of c.args.content.now) c.args.text.now c.args.least c.args.most c.args.low c.args.high c.loop-done.done c.loop-done.place c.in-Some.left c.saturating_sub-end.result l last c.saturating_sub-end.ensures))

pub set_turns-returns : goal.set_turns-returns
set_turns-returns t c = record {
  value = λ l.
      absurd (never_so_many (tree_of c.args.content.now) c.args.text.now c.args.least c.args.most c.args.low c.args.high c.loop-done.done c.loop-done.place c.args.groups.now c.loop-done.groups l.within (c.loop-done.invariant l) (let n = c.loop-done-test.false in let e = c.saturating_sub.ensures in omega arith));
}
