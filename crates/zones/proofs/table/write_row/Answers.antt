use Rattle.std.proofs.Common.{◌≡◌, None, arith, ◌∙◌, ap, sym, inl, inr}
use Rattle.std.proofs.lemmas.Bool.{cases_lt}
use Rattle.std.proofs.lemmas.Bool.Decides.{eqb_tells}
use Rattle.std.proofs.lemmas.List.{get_or_default}
use Rattle.zones.specs.Bound.{raise}
use Rattle.zones.specs.Zone.{bound}
use Rattle.zones.proofs.ReachLemmas.{raise-unknown}
use Rattle.zones.proofs.RowWrites.{row-begun, row-next}
use Rattle.zones.proofs.table.write_row.Goals as goal

pub loop-q-init : goal.loop-q-init
loop-q-init c = row-begun c.args.table.now _ c.args.x c.told-table

pub loop-q-preserved : goal.loop-q-preserved
unfolding bound
loop-q-preserved c =
    let old = c.args.table.now in
    let table = c.loop-q.table in
    let y = c.args.y in
    let q = c.loop-q.q in
    let read : bound table y q ≡ bound old y q = elim (eqb_tells y c.args.x) [
      | inl t ↦ rw t.1 (c.loop-q.invariant.rest q (omega arith) (omega arith))
      | inr t ↦ c.loop-q.invariant.others y q (omega arith) t.1
    ] in
    row-next old table _ c.args.x q c.raise.result (omega arith) (omega arith) c.loop-q.invariant
    (c.raise.ensures.value ∙ ap (λ b. raise b c.args.high) (get_or_default table _ _ None (omega (arith, c.loop-q.invariant.size)) ∙ read))

pub returns-clause-row : goal.returns-clause-row
returns-clause-row c q hq n =
    elim (cases_lt q c.args.most) [
      | inl low ↦ c.loop-q.invariant.row q (omega (arith, low))
      | inr high ↦ c.loop-q.invariant.rest q (omega (arith, high)) hq
          ∙ raise-unknown c.args.table.now c.args.x c.args.y q c.args.high (c.requires.unknown.column c.args.x q high (omega arith) hq) (c.requires.unknown.column c.args.y q high (omega arith) hq)
          (λ e. n (sym e)) (omega (arith, high))
    ]
