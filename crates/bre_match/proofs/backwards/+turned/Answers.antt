use Rattle.std.proofs.Common.{◌-◌, drop, arith, subst}
use Rattle.bre_parse.specs.Tree.{tree_of, sequence_of}
use Rattle.bre_parse.specs.WellFormed.{bounds_in_order, repeats_in_order}
use Rattle.bre_parse.proofs.Sequences.{tree_of-Sequence}
use Rattle.bre_match.specs.Parts.{part_of}
use Rattle.bre_match.specs.Backwards.{Backwards}
use Rattle.bre_match.proofs.Mirror.{mirror_sequence, mirror_repeat, mirror_item}
use Rattle.bre_match.proofs.RowTables.{order_item}
use Rattle.bre_match.proofs.TreeReach.{both_left, both_right}
use Rattle.bre_match.proofs.backwards.+turned.Goals as goal

pub turned-returns-in_ok-back-in-Sequence : goal.turned-returns-in_ok-back-in-Sequence
turned-returns-in_ok-back-in-Sequence t c = record {
  value = λ order. mirror_sequence _ _ c.args.part.now c.in-Sequence.items c.deref.result.now c.in_ok-back-in-Sequence.back c.in-Sequence.is c.deref.ensures.value (c.in_ok-back-in-Sequence.ensures.value (rw (c.in-Sequence.is, tree_of-Sequence, ← c.deref.ensures.value) at order));
}

pub turned-returns-in_ok-new-in-Repeat : goal.turned-returns-in_ok-new-in-Repeat
turned-returns-in_ok-new-in-Repeat t c = record {
  value = λ order.
      let known = rw c.in-Repeat.is at order in
      rw c.in-Repeat.is
      (rw c.in_ok-new-in-Repeat.ensures.ok
      (mirror_repeat _ _ c.in-Repeat.least c.in-Repeat.most (part_of (tree_of c.in-Repeat.content.value)) (part_of (tree_of c.in_ok-back-in-Repeat.back))
      (both_left (bounds_in_order c.in-Repeat.least c.in-Repeat.most) (repeats_in_order (tree_of c.in-Repeat.content.value)) known)
      ((rw c.deref-in-Repeat.ensures at c.in_ok-back-in-Repeat.ensures.value) (both_right (bounds_in_order c.in-Repeat.least c.in-Repeat.most) (repeats_in_order (tree_of c.in-Repeat.content.value)) known))));
}

pub turned_row-loop-left-preserved : goal.turned_row-loop-left-preserved
turned_row-loop-left-preserved t c =
    let few = c.loop-left.invariant.few in
    let some = c.loop-left-test.true in
    record {
      few = omega arith;
      back = λ order.
          mirror_item _ _ c.args.items.now c.loop-left.back.items c.push.new.self.items (c.loop-left.left - 1) c.index-items-left.result c.in_ok-item.item (omega arith) c.index-items-left.is c.in_ok-push.ensures.items
          (c.in_ok-item.ensures.value (order_item c.args.items.now (c.loop-left.left - 1) c.index-items-left.result order (omega arith) c.index-items-left.is))
          (subst (λ z. Backwards c.args.edges.starts c.args.edges.ends (part_of (sequence_of (drop z c.args.items.now))) (part_of (sequence_of c.loop-left.back.items)))
          (omega arith) (c.loop-left.invariant.back order));
    }
