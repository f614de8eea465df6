use Rattle.std.proofs.Common.{arith, []}
use Rattle.unified_diff.proofs.Texts.{lines-more}
use Rattle.unified_diff.proofs.writing.push_lines.Goals as goal

pub loop-place-preserved : goal.loop-place-preserved
loop-place-preserved c =
    lines-more c.args.colours c.args.sign c.args.start c.loop-place.place c.args.lines.now (record { ref_ptr = (0, 0); now = [] })
    c.args.text.now c.loop-place.text c.push_line.new.text (omega arith) (omega arith) c.loop-place.invariant c.in_ok-push_line.ensures.appended
