use Rattle.std.proofs.Common.{refl, drop}
use Rattle.bre_parse.specs.Tree.{tree_of}
use Rattle.bre_parse.proofs.Sequences.{tree_of-Sequence}
use Rattle.bre_match.specs.Parts.{part_of, Nothing}
use Rattle.bre_match.proofs.ColumnRows.{look_on, same_left, item_left, turn_left, more_left, lead_on, lead_left, put_on, put_left, put_maybe, star_weight, star_at, more_weight, more_at, star_marks, more_marks}
use Rattle.bre_match.proofs.column.+step.Goals as goal

pub step-returns-in_ok-passed-in-Sequence-clause-weight : goal.step-returns-in_ok-passed-in-Sequence-clause-weight
step-returns-in_ok-passed-in-Sequence-clause-weight t c =
    rw (c.in-Sequence.is, tree_of-Sequence, ← c.deref.ensures.value) c.in_ok-passed-in-Sequence.ensures.weight

pub step-returns-in_ok-passed-in-Sequence-clause-at : goal.step-returns-in_ok-passed-in-Sequence-clause-at
step-returns-in_ok-passed-in-Sequence-clause-at t c =
    rw (c.in-Sequence.is, tree_of-Sequence, ← c.deref.ensures.value) c.in_ok-passed-in-Sequence.ensures.at

pub step-returns-in_ok-passed-in-Sequence-clause-marks : goal.step-returns-in_ok-passed-in-Sequence-clause-marks
step-returns-in_ok-passed-in-Sequence-clause-marks t c =
    rw (c.in-Sequence.is, tree_of-Sequence, ← c.deref.ensures.value) c.in_ok-passed-in-Sequence.ensures.marks

pub step_all-loop-item-init : goal.step_all-loop-item-init
step_all-loop-item-init t c = record {
  after = record { weight = refl; at = refl };
  put = record { marks = refl };
}

pub step_all-loop-item-preserved : goal.step_all-loop-item-preserved
step_all-loop-item-preserved t c =
    let left = item_left c.args.items.now c.loop-item.item-index c.item-item.result c.loop-item-test.true c.item-item.is in
    record {
      after =
          look_on _ (part_of (tree_of c.item-item.result)) _ _ _ _ (drop c.loop-item.passed.at c.args.marks.now) _ _ c.loop-item.passed.weight _
          (same_left _ _ _ _ _ _ _ _ _ left c.loop-item.invariant.after) c.in_ok-passed.ensures.weight c.in_ok-passed.ensures.at;
      put =
          put_on c.args.asked _ (part_of (tree_of c.item-item.result)) _ _ _ _ (drop c.loop-item.passed.at c.args.marks.now) _ _ c.loop-item.passed.weight _ _ c.loop-item.out.items _
          (put_left c.args.asked _ _ _ _ _ _ _ _ _ _ _ left c.loop-item.invariant.put) c.in_ok-passed.ensures.weight c.in_ok-passed.ensures.at c.in_ok-passed.ensures.marks;
    }

pub step_needed-loop-turn-preserved : goal.step_needed-loop-turn-preserved
step_needed-loop-turn-preserved t c =
    let left = turn_left c.args.count c.loop-turn.turn (part_of (tree_of c.args.content.now)) Nothing c.loop-turn-test.true in
    record {
      after =
          look_on _ (part_of (tree_of c.args.content.now)) _ _ _ _ (drop c.loop-turn.passed.at c.args.marks.now) _ _ c.loop-turn.passed.weight _
          (same_left _ _ _ _ _ _ _ _ _ left c.loop-turn.invariant.after) c.in_ok-passed.ensures.weight c.in_ok-passed.ensures.at;
      put =
          put_on c.args.asked _ (part_of (tree_of c.args.content.now)) _ _ _ _ (drop c.loop-turn.passed.at c.args.marks.now) _ _ c.loop-turn.passed.weight _ _ c.loop-turn.out.items _
          (put_left c.args.asked _ _ _ _ _ _ _ _ _ _ _ left c.loop-turn.invariant.put) c.in_ok-passed.ensures.weight c.in_ok-passed.ensures.at c.in_ok-passed.ensures.marks;
    }

pub step_up_to-loop-turn-preserved : goal.step_up_to-loop-turn-preserved
step_up_to-loop-turn-preserved t c =
    let left = more_left c.args.count c.loop-turn.turn (part_of (tree_of c.args.content.now)) c.loop-turn-test.true in
    record {
      after =
          lead_on _ (part_of (tree_of c.args.content.now)) _ _ _ _ (drop c.loop-turn.passed.at c.args.marks.now) _ _ c.loop-turn.passed.weight _ c.loop-turn.least _
          (lead_left _ _ _ _ _ _ _ _ _ _ left c.loop-turn.invariant.after) c.in_ok-passed.ensures.weight c.in_ok-passed.ensures.at c.less_of-least.ensures.value;
      put =
          put_on c.args.asked _ (part_of (tree_of c.args.content.now)) _ _ _ _ (drop c.loop-turn.passed.at c.args.marks.now) _ _ c.loop-turn.passed.weight _ _ c.loop-turn.out.items _
          (put_maybe c.args.asked _ _ _ _ _ _ _ _ _ _ (put_left c.args.asked _ _ _ _ _ _ _ _ _ _ _ left c.loop-turn.invariant.put)) c.in_ok-passed.ensures.weight c.in_ok-passed.ensures.at c.in_ok-passed.ensures.marks;
    }

pub step_repeat-returns-in-Weight-clause-weight : goal.step_repeat-returns-in-Weight-clause-weight
step_repeat-returns-in-Weight-clause-weight t c =
    star_weight c.args.least c.args.most (part_of (tree_of c.args.content.now)) c.args.text.now c.args.place (drop c.args.before.at c.args.marks.now) (drop c.in_ok-begun.begun.at c.args.marks.now) c.args.before.weight c.in_ok-begun.begun.weight c.in_ok-turn-in-None.turn.weight c.less_of-weight.result
    c.in-None.is c.in_ok-begun.ensures.weight c.in_ok-begun.ensures.at c.in_ok-turn-in-None.ensures.weight c.less_of-weight.ensures.value

pub step_repeat-returns-in-Weight-clause-at : goal.step_repeat-returns-in-Weight-clause-at
step_repeat-returns-in-Weight-clause-at t c =
    star_at c.args.least c.args.most (part_of (tree_of c.args.content.now)) (drop c.args.before.at c.args.marks.now) (drop c.in_ok-begun.begun.at c.args.marks.now) _
    c.in-None.is c.in_ok-begun.ensures.at c.in_ok-turn-in-None.ensures.at

pub step_repeat-returns-in_ok-again-in-Marks-clause-weight : goal.step_repeat-returns-in_ok-again-in-Marks-clause-weight
step_repeat-returns-in_ok-again-in-Marks-clause-weight t c =
    star_weight c.args.least c.args.most (part_of (tree_of c.args.content.now)) c.args.text.now c.args.place (drop c.args.before.at c.args.marks.now) (drop c.in_ok-begun.begun.at c.args.marks.now) c.args.before.weight c.in_ok-begun.begun.weight c.in_ok-turn-in-None.turn.weight c.less_of-weight.result
    c.in-None.is c.in_ok-begun.ensures.weight c.in_ok-begun.ensures.at c.in_ok-turn-in-None.ensures.weight c.less_of-weight.ensures.value

pub step_repeat-returns-in_ok-again-in-Marks-clause-at : goal.step_repeat-returns-in_ok-again-in-Marks-clause-at
step_repeat-returns-in_ok-again-in-Marks-clause-at t c =
    star_at c.args.least c.args.most (part_of (tree_of c.args.content.now)) (drop c.args.before.at c.args.marks.now) (drop c.in_ok-begun.begun.at c.args.marks.now) _
    c.in-None.is c.in_ok-begun.ensures.at c.in_ok-again-in-Marks.ensures.at

pub step_repeat-returns-in_ok-again-in-Marks-clause-marks : goal.step_repeat-returns-in_ok-again-in-Marks-clause-marks
step_repeat-returns-in_ok-again-in-Marks-clause-marks t c =
    star_marks c.args.asked c.args.least c.args.most (part_of (tree_of c.args.content.now)) c.args.text.now c.args.place (drop c.args.before.at c.args.marks.now) (drop c.in_ok-begun.begun.at c.args.marks.now) c.args.before.weight c.in_ok-begun.begun.weight c.in_ok-turn-in-None.turn.weight c.less_of-weight.result c.args.out.now.items c.step_needed.new.out.items c.step.new.out.items c.step-in-Marks.new.out.items
    c.in-None.is c.in_ok-begun.ensures.weight c.in_ok-begun.ensures.at c.in_ok-turn-in-None.ensures.weight c.less_of-weight.ensures.value c.in_ok-begun.ensures.marks c.in_ok-turn-in-None.ensures.marks c.in_ok-again-in-Marks.ensures.marks

pub step_repeat-returns-in_ok-passed-in-Some-clause-weight : goal.step_repeat-returns-in_ok-passed-in-Some-clause-weight
step_repeat-returns-in_ok-passed-in-Some-clause-weight t c =
    more_weight c.args.least c.in-Some.most c.saturating_sub-more.result c.args.most (part_of (tree_of c.args.content.now)) c.args.text.now c.args.place (drop c.args.before.at c.args.marks.now) (drop c.in_ok-begun.begun.at c.args.marks.now) c.args.before.weight c.in_ok-begun.begun.weight _
    c.in-Some.is c.saturating_sub-more.ensures c.in_ok-begun.ensures.weight c.in_ok-begun.ensures.at c.in_ok-passed-in-Some.ensures.weight

pub step_repeat-returns-in_ok-passed-in-Some-clause-at : goal.step_repeat-returns-in_ok-passed-in-Some-clause-at
step_repeat-returns-in_ok-passed-in-Some-clause-at t c =
    more_at c.args.least c.in-Some.most c.saturating_sub-more.result c.args.most (part_of (tree_of c.args.content.now)) (drop c.args.before.at c.args.marks.now) (drop c.in_ok-begun.begun.at c.args.marks.now) _
    c.in-Some.is c.saturating_sub-more.ensures c.in_ok-begun.ensures.at c.in_ok-passed-in-Some.ensures.at

pub step_repeat-returns-in_ok-passed-in-Some-clause-marks : goal.step_repeat-returns-in_ok-passed-in-Some-clause-marks
step_repeat-returns-in_ok-passed-in-Some-clause-marks t c =
    more_marks c.args.asked c.args.least c.in-Some.most c.saturating_sub-more.result c.args.most (part_of (tree_of c.args.content.now)) c.args.text.now c.args.place (drop c.args.before.at c.args.marks.now) (drop c.in_ok-begun.begun.at c.args.marks.now) c.args.before.weight c.in_ok-begun.begun.weight c.args.out.now.items c.step_needed.new.out.items c.step_up_to.new.out.items
    c.in-Some.is c.saturating_sub-more.ensures c.in_ok-begun.ensures.weight c.in_ok-begun.ensures.at c.in_ok-begun.ensures.marks c.in_ok-passed-in-Some.ensures.marks
