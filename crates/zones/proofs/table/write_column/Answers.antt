use Rattle.std.proofs.Common.{◌≡◌, ◌<◌, None, length-set, arith, ◌∙◌, ap, inl, inr}
use Rattle.std.proofs.lemmas.Bool.{cases_lt}
use Rattle.std.proofs.lemmas.Bool.Decides.{eqb_tells}
use Rattle.std.proofs.lemmas.List.{get_or_default}
use Rattle.zones.specs.Bound.{lower}
use Rattle.zones.specs.Zone.{bound}
use Rattle.zones.proofs.ReachLemmas.{lower-unknown}
use Rattle.zones.proofs.Writes.{bound-set_row, bound-set_column, column-set}
use Rattle.zones.proofs.table.write_column.Goals as goal

pub loop-p-preserved : goal.loop-p-preserved
unfolding bound
loop-p-preserved c =
    let old = c.args.table.now in
    let table = c.loop-p.table in
    let x = c.args.x in
    let y = c.args.y in
    let p = c.loop-p.p in
    let low = c.args.low in
    let hx : x < 32 = omega arith in
    let hy : y < 32 = omega arith in
    let read : bound table p y ≡ bound old p y = elim (eqb_tells y x) [
      | inl t ↦ rw t.1 (c.loop-p.invariant.rest p (omega arith))
      | inr t ↦ c.loop-p.invariant.others p y hy t.1
    ] in
    record {
      size = length-set _ _ _ ∙ c.loop-p.invariant.size;
      column = column-set table (λ a. lower (bound old a y) low) p x c.lower.result hx (omega (arith, c.loop-p.invariant.size))
          (c.lower.ensures.value ∙ ap (λ b. lower b low) (get_or_default table _ _ None (omega (arith, c.loop-p.invariant.size)) ∙ read)) c.loop-p.invariant.column;
      rest = λ a l. bound-set_row table p x a x _ hx hx (omega arith) ∙ c.loop-p.invariant.rest a (omega arith);
      others = λ a b hb n. bound-set_column table p x a b _ hx hb n ∙ c.loop-p.invariant.others a b hb n;
    }

pub returns-clause-column : goal.returns-clause-column
returns-clause-column c p hp n =
    elim (cases_lt p c.args.most) [
      | inl low ↦ c.loop-p.invariant.column p (omega (arith, low))
      | inr high ↦ c.loop-p.invariant.rest p (omega (arith, high))
          ∙ lower-unknown c.args.table.now p c.args.x c.args.y c.args.low (c.requires.unknown p c.args.x high hp (omega arith)) (c.requires.unknown p c.args.y high hp (omega arith)) n (omega (arith, high))
    ]
