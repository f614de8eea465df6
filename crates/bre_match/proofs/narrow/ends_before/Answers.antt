use Rattle.std.proofs.Common.{◌-◌, refl, sym, ◌∙◌, arith}
use Rattle.bre_match.specs.Runs.{groups_at}
use Rattle.bre_match.proofs.Narrowing.{first_dropped, fewer_left}
use Rattle.bre_match.proofs.narrow.ends_before.Goals as goal

pub loop-shorter-preserved : goal.loop-shorter-preserved
loop-shorter-preserved c =
    let g = groups_at c.args.run.now in
    record {
      kept = λ f absent.
          first_dropped f c.loop-shorter.end c.loop-shorter.shorter c.saturating_sub-end.result (c.loop-shorter.shorter - 1) g (omega arith) c.saturating_sub-end.ensures refl (absent c.loop-shorter.end (sym c.has_byte_in.ensures.value ∙ c.if-not-has_byte_in.true))
          ∙ c.loop-shorter.invariant.kept f absent;
      fewer = λ f.
          let one = fewer_left f c.loop-shorter.end c.loop-shorter.shorter c.saturating_sub-end.result (c.loop-shorter.shorter - 1) g (omega arith) c.saturating_sub-end.ensures refl in
          let all = c.loop-shorter.invariant.fewer f in
          omega arith;
    }
