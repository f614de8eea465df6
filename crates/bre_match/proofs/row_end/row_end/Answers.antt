use Rattle.bre_parse.specs.Tree.{sequence_of}
use Rattle.bre_match.specs.RowEnds.{row_end}
use Rattle.bre_match.specs.declared.row_end.RowEnd.TheVariants as row
use Rattle.bre_match.proofs.RowEnds.{row_told, row_step, row_done, row_after_bytes}
use Rattle.bre_match.proofs.row_end.row_end.Goals as goal

pub returns-in-Some-clause-exact : goal.returns-in-Some-clause-exact
returns-in-Some-clause-exact c =
    row_after_bytes c.args.items.now c.loop-i.i c.index-items-i.result c.args.text.now c.loop-i.at c.in-Some.least c.in-Some.most c.in-Some.set.now.negated c.in-Some.set.now.ranges.items c.after_bytes.result (row_end (sequence_of c.args.items.now) c.args.text.now c.args.start)
    c.loop-i-test.true c.index-items-i.is c.in-Some.ensures.value c.after_bytes.ensures.value c.loop-i.invariant

pub returns-in-Some-clause-sound : goal.returns-in-Some-clause-sound
returns-in-Some-clause-sound c =
    row_told (sequence_of c.args.items.now) c.args.text.now c.args.start c.after_bytes.result
    (row_after_bytes c.args.items.now c.loop-i.i c.index-items-i.result c.args.text.now c.loop-i.at c.in-Some.least c.in-Some.most c.in-Some.set.now.negated c.in-Some.set.now.ranges.items c.after_bytes.result (row_end (sequence_of c.args.items.now) c.args.text.now c.args.start)
    c.loop-i-test.true c.index-items-i.is c.in-Some.ensures.value c.after_bytes.ensures.value c.loop-i.invariant)

pub returns-in-Nowhere-clause-sound : goal.returns-in-Nowhere-clause-sound
returns-in-Nowhere-clause-sound c =
    row_told (sequence_of c.args.items.now) c.args.text.now c.args.start row.Nowhere
    (row_step c.args.items.now c.loop-i.i c.index-items-i.result c.args.text.now c.loop-i.at row.Nowhere (row_end (sequence_of c.args.items.now) c.args.text.now c.args.start)
    c.loop-i-test.true c.index-items-i.is c.in_default.ensures.value c.in-Nowhere.ensures.value c.loop-i.invariant)

pub returns-clause-sound : goal.returns-clause-sound
returns-clause-sound c =
    row_told (sequence_of c.args.items.now) c.args.text.now c.args.start (row.At c.loop-i.at)
    (row_done c.args.items.now c.loop-i.i c.args.text.now c.loop-i.at (row_end (sequence_of c.args.items.now) c.args.text.now c.args.start) c.loop-i-test.false c.loop-i.invariant)
