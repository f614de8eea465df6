use Rattle.ed_main.proofs.Differing.{has_none, on_ok, shows_untold, written_read}
use Rattle.ed_main.proofs.diffs.diff_at.Goals as goal

pub returns-in-Bytes-clause-kept : goal.returns-in-Bytes-clause-kept
returns-in-Bytes-clause-kept g c =
    on_ok c.diff_of.result (written_read _ _ c.args.path.now c.in_ok-told.told c.in_ok-told.ensures.logged)

pub returns : goal.returns
returns g c = record {
  shown =
      shows_untold c.args.colours _ _ c.args.path.now c.new.result c.in_ok-found.found c.in_ok-told.told c.in_ok-found.ensures.found
      (has_none c.in_ok-told.told c.in-Missing.is) c.in_ok-told.ensures.shown.as_written;
  goes_on = c.in_ok-found.ensures.goes_on;
  kept = written_read _ _ c.args.path.now c.in_ok-told.told c.in_ok-told.ensures.logged;
}
