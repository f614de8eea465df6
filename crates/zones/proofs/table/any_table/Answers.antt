use Rattle.std.proofs.Common.{◌≡◌, ◌+◌, ◌*◌, pos, Some, None, set, length-set, arith, ◌∙◌, inl, inr, below_more}
use Rattle.std.proofs.lemmas.Bool.Decides.{eqb_tells}
use Rattle.std.proofs.lemmas.List.{get_or-replicate, length-replicate}
use Rattle.zones.specs.Zone.{bound}
use Rattle.zones.specs.Steps.{any_zone, any_bound}
use Rattle.zones.proofs.Places.{zone_by-each}
use Rattle.zones.proofs.Writes.{bound-set_same, bound-set_row, bound-set_diagonal}
use Rattle.zones.proofs.table.any_table.Goals as goal

pub loop-p-init : goal.loop-p-init
unfolding bound
loop-p-init c = record {
  size = length-replicate 1024 c.any-table.result;
  diagonal = λ a l. absurd (omega arith);
  others = λ a b ha hb n. get_or-replicate 1024 (32 * a + b) c.any-table.result None (omega arith) ∙ c.any-table.ensures.value;
}

pub loop-p-preserved : goal.loop-p-preserved
loop-p-preserved c =
    let table = c.loop-p.table in
    let p = c.loop-p.p in
    let hp = c.loop-p-test.true in
    let size = c.loop-p.invariant.size in
    record {
      size = length-set _ _ _ ∙ size;
      diagonal = below_more (λ a. bound (set table (32 * p + p) c.of.result) a a ≡ Some (pos 0)) p
          (λ a l. bound-set_row table p p a a c.of.result hp (omega arith) (omega arith) ∙ c.loop-p.invariant.diagonal a l)
          (bound-set_same table p p c.of.result (omega arith) ∙ c.of.ensures.value);
      others = λ a b ha hb n. bound-set_diagonal table p a b c.of.result hp hb n ∙ c.loop-p.invariant.others a b ha hb n;
    }

pub returns : goal.returns
unfolding any_zone
returns c = record {
  exact = zone_by-each any_bound _ c.loop-p.invariant.size
      (λ p q hp hq. elim (eqb_tells p q) [
        | inl t ↦ rw (t.0, ← t.1) (c.loop-p.invariant.diagonal p (omega arith))
        | inr t ↦ rw t.0 (c.loop-p.invariant.others p q hp hq t.1)
      ]);
}
