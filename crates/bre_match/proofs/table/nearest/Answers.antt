use Rattle.bre_parse.specs.Tree.{tree_of}
use Rattle.bre_match.specs.Ends.{leads_on, entered}
use Rattle.bre_match.proofs.ColumnSearch.{row_made, out_made}
use Rattle.bre_match.proofs.Pieces.{run_begun, run_next}
use Rattle.bre_match.proofs.table.nearest.Goals as goal

pub loop-place-init : goal.loop-place-init
loop-place-init c =
    run_begun (tree_of c.args.back.now) c.args.piece.now (entered (leads_on c.args.stops c.args.next.now)) c.new-marks.result.items c.new-all.result.items c.new-marks.ensures.items c.new-all.ensures.items

pub loop-place-preserved : goal.loop-place-preserved
loop-place-preserved c =
    let t = tree_of c.args.back.now in
    let entry = c.entry_at-entry.result in
    rw c.swap.ensures.x_after
    (run_next t c.args.piece.now (entered (leads_on c.args.stops c.args.next.now)) c.loop-place.place entry c.in_ok-passed.passed.weight c.loop-place.marks.items c.step.new.out.items c.loop-place.all.items c.push.new.self.items c.loop-place-test.true c.loop-place.invariant c.entry_at-entry.ensures.value
    (out_made t c.args.piece.now c.loop-place.place entry c.in_ok-passed.passed.weight c.deref.result.now c.loop-place.marks.items c.in_ok-passed.ensures.weight c.deref.ensures.value)
    (row_made t c.args.piece.now c.loop-place.place entry c.step.new.out.items c.clear.new.self.items c.deref.result.now c.loop-place.marks.items c.in_ok-passed.ensures.marks c.clear.ensures.items c.deref.ensures.value)
    c.in_ok-push.ensures.items)
