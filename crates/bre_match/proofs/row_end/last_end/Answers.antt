use Rattle.bre_parse.specs.Tree.{sequence_of}
use Rattle.bre_match.specs.RowEnds.{fixed_end, last_end}
use Rattle.bre_match.proofs.RowEnds.{next_before}
use Rattle.bre_match.proofs.row_end.last_end.Goals as goal

pub loop-passed-preserved : goal.loop-passed-preserved
loop-passed-preserved c =
    let rest = fixed_end (sequence_of c.args.rest.now) c.args.text.now in
    next_before rest c.loop-passed.at c.saturating_sub-at.result c.args.more c.loop-passed.passed (last_end rest c.args.place c.args.more) c.loop-passed-test.true c.saturating_sub-at.ensures c.in-Nowhere.ensures.value c.loop-passed.invariant
