-- The diffs of the paths so far were taken.
use Rattle.std.proofs.Common.{◌≡◌, take}
use Rattle.rehearsal.specs.Rehearsals.{written}
use Rattle.ed_session.specs.MemFiles.{log_of}
use Rattle.ed_session.specs.Sinks.{change, NeverFailed}
use Rattle.ed_main.specs.Diffs.{ShowsFiles}
use Rattle.ed_main.proofs.diffs.write_diffs.Given as goal

abbrev pub invariant-loop-path : goal.invariant-loop-path
invariant-loop-path g l =
    let sink = change (g.W.Sink.state l.fn.sink) (g.W.Sink.state l.sink) in
    record {
      kept : written (log_of l.rehearsal.files) ≡ written (log_of l.fn.rehearsal.files);
      shown : ShowsFiles l.colours (written (log_of l.fn.rehearsal.files)) (g.P.Outside.log l.real) (take l.path-index l.paths) sink;
      failures : NeverFailed sink;
    }
