use Rattle.std.proofs.Common.{refl, ◌∙◌}
use Rattle.ed_session.specs.MemFiles.{log_of}
use Rattle.rehearsal.specs.Rehearsals.{written}
use Rattle.ed_main.proofs.Differing.{one_more}
use Rattle.ed_main.proofs.diffs.write_diffs.Goals as goal

pub loop-path-preserved : goal.loop-path-preserved
loop-path-preserved g c =
    let before = c.loop-path.invariant in
    let took = c.if-not-give.ensures.all refl in
    record {
      kept = c.in_ok-diff.ensures.kept ∙ before.kept;
      shown =
          one_more c.args.colours (written (log_of c.loop-path.rehearsal.files)) (written (log_of c.args.rehearsal.now.files)) (g.P.Outside.log c.loop-path.real)
          (g.P.Outside.log c.diff_at.new.real) c.as_slice-paths.result.now c.loop-path.path-index c.path-item.result c.as_slice.result.now c.in_ok-diff.diff
          c.as_slice-in-loop-path.result.now (g.W.Sink.state c.args.sink.now) (g.W.Sink.state c.loop-path.sink) (g.W.Sink.state c.give.new.sink)
          c.loop-path-test.true c.path-item.is c.as_slice.ensures.value c.as_slice-in-loop-path.ensures.value before.kept before.shown
          c.in_ok-diff.ensures.goes_on c.in_ok-diff.ensures.shown took.0;
      failures = took.1 ∙ before.failures;
    }
