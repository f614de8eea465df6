use Rattle.std.proofs.Common.{arith}
use Rattle.std.proofs.lemmas.List.Elements.{All-more, All-weaker}
use Rattle.zones.specs.Written.{IsWithin}
use Rattle.zones.proofs.Keeping.{written-next}
use Rattle.zones.proofs.kept_zone.write_entries.Goals as goal

pub loop-kept-preserved : goal.loop-kept-preserved
loop-kept-preserved c =
    let entries = c.args.entries.now in
    let i = c.loop-kept.kept-index in
    let b = c.kept-item.result in
    let place = c.place-place.result in
    let at = c.place-place.ensures.value in
    let reach = c.reach_with-reach.result in
    let more = c.reach_with-reach.ensures in
    record {
      written = rw c.entry.ensures.value (written-next entries i place b _ _ c.loop-kept-test.true c.kept-item.is at c.loop-kept.invariant.written);
      in_range = more.in_range;
      within = All-more (IsWithin reach) entries i b c.loop-kept-test.true
          (All-weaker (IsWithin c.loop-kept.reach) (IsWithin reach) (λ d w. (omega (arith, w.0, more.reach), omega (arith, w.1, more.reach))) _ c.loop-kept.invariant.within)
          (rw (← c.kept-item.is, ← at) (more.x, more.y));
    }
