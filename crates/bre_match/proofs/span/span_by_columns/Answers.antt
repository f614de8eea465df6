use Rattle.std.proofs.Common.{◌+◌, length, Some, sym, ◌∙◌, arith}
use Rattle.bre_parse.specs.Tree.{sequence_of}
use Rattle.bre_match.specs.Parts.{part_of}
use Rattle.bre_match.proofs.ColumnSearch.{begins, goes_on, ends_early, ends, row_made, out_made, best_next, found_within}
use Rattle.bre_match.proofs.span.span_by_columns.Goals as goal

pub loop-place-init : goal.loop-place-init
loop-place-init c = rw c.new-marks.ensures.items (begins (sequence_of c.args.items.now) c.args.text.now c.args.from c.requires.place)

pub loop-place-preserved : goal.loop-place-preserved
loop-place-preserved c =
    let t = sequence_of c.args.items.now in
    rw c.swap.ensures.x_after
    (goes_on t c.args.text.now c.args.from c.loop-place.place c.loop-place.marks.items c.step_all.new.out.items c.loop-place.best c.better-best.result c.in_ok-passed.passed.weight c.loop-place-test.true c.loop-place.invariant
    (row_made t c.args.text.now c.loop-place.place (Some c.loop-place.place) c.step_all.new.out.items c.clear.new.self.items c.deref.result.now c.loop-place.marks.items c.in_ok-passed.ensures.marks c.clear.ensures.items c.deref.ensures.value)
    (out_made t c.args.text.now c.loop-place.place (Some c.loop-place.place) c.in_ok-passed.passed.weight c.deref.result.now c.loop-place.marks.items c.in_ok-passed.ensures.weight c.deref.ensures.value)
    c.better-best.ensures.value)

pub returns-then-is_over : goal.returns-then-is_over
returns-then-is_over c =
    let t = sequence_of c.args.items.now in
    record {
      value =
          ends_early t c.args.text.now c.args.from c.loop-place.place c.loop-place.marks.items c.step_all.new.out.items c.loop-place.best c.better-best.result c.in_ok-passed.passed.weight c.requires.free c.requires.in_order c.requires.place c.loop-place-test.true c.loop-place.invariant
          (row_made t c.args.text.now c.loop-place.place (Some c.loop-place.place) c.step_all.new.out.items c.clear.new.self.items c.deref.result.now c.loop-place.marks.items c.in_ok-passed.ensures.marks c.clear.ensures.items c.deref.ensures.value)
          (out_made t c.args.text.now c.loop-place.place (Some c.loop-place.place) c.in_ok-passed.passed.weight c.deref.result.now c.loop-place.marks.items c.in_ok-passed.ensures.weight c.deref.ensures.value)
          c.better-best.ensures.value
          (rw c.deref-in-loop-place.ensures.value at (sym c.is_over.ensures.value ∙ c.if-is_over.true));
      within =
          found_within (part_of t) c.args.text.now c.args.from (c.loop-place.place + 1) (length c.args.text.now) c.better-best.result (omega arith)
          (best_next t c.args.text.now c.args.from c.loop-place.place c.loop-place.marks.items c.loop-place.best c.better-best.result c.in_ok-passed.passed.weight c.loop-place.invariant
          (out_made t c.args.text.now c.loop-place.place (Some c.loop-place.place) c.in_ok-passed.passed.weight c.deref.result.now c.loop-place.marks.items c.in_ok-passed.ensures.weight c.deref.ensures.value)
          c.better-best.ensures.value);
    }

pub returns : goal.returns
returns c = record {
  value =
      ends (sequence_of c.args.items.now) c.args.text.now c.args.from c.loop-place.place c.loop-place.marks.items c.loop-place.best c.requires.free c.requires.in_order c.requires.place c.loop-place-test.false c.loop-place.invariant;
  within =
      found_within (part_of (sequence_of c.args.items.now)) c.args.text.now c.args.from c.loop-place.place (length c.args.text.now) c.loop-place.best c.loop-place.invariant.high c.loop-place.invariant.so_far;
}
