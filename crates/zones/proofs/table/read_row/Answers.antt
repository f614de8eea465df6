use Rattle.std.proofs.Common.{◌≡◌, ◌*◌, ◌+◌, None, length-set, get_or-set_other, arith, ◌∙◌}
use Rattle.std.proofs.lemmas.List.{get_or_default}
use Rattle.zones.specs.Zone.{bound}
use Rattle.zones.proofs.Places.{each-set}
use Rattle.zones.proofs.table.read_row.Goals as goal

pub loop-q-init : goal.loop-q-init
loop-q-init c = record {
  size = c.told-row;
  done = λ q h. absurd (omega (arith, h));
  rest = λ q l h. c.requires.empty q h;
}

pub loop-q-preserved : goal.loop-q-preserved
unfolding bound
loop-q-preserved c =
    let table = c.args.table.now in
    let row = c.loop-q.row in
    let q = c.loop-q.q in
    let y = c.args.y in
    record {
      size = length-set _ _ _ ∙ c.loop-q.invariant.size;
      done = each-set (λ k v. v ≡ bound table y k) row q _ (omega (arith, c.loop-q.invariant.size))
          (get_or_default table (32 * y + q) c.index-table-y.result None (omega arith)) c.loop-q.invariant.done;
      rest = λ k l h. get_or-set_other row q k _ None (omega (arith, l)) ∙ c.loop-q.invariant.rest k (omega (arith, l)) h;
    }
