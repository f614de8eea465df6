use Rattle.std.proofs.Common.{◌≡◌, ◌<◌, ◌+◌, ◌*◌, Some, None, w64, FitsSigned, to_z, of_z, get_or, arith, ◌∙◌, ap, sym, inl, inr, rules}
use Rattle.std.proofs.lemmas.Bool.{cases_lt}
use Rattle.std.proofs.lemmas.List.{get_or_default}
use Rattle.std.proofs.lemmas.Int.{to_z-of_z}
use Rattle.zones.specs.Bound.{tighten}
use Rattle.zones.specs.Zone.{bound}
use Rattle.zones.proofs.RowWrites.{row-begun, row-next, row-skipped}
use Rattle.zones.proofs.Writes.{tighten-same, tighten-no_way_from}
use Rattle.zones.proofs.table.tighten_row.Goals as goal
use Rattle.zones.proofs.table.tighten_row.Goals.{in-Some, in_default}

pub loop-q-init : goal.loop-q-init
loop-q-init c = row-begun c.args.table.now _ c.args.p c.told-table

pub loop-q-preserved : goal.loop-q-preserved
unfolding bound
loop-q-preserved c =
    let old = c.args.table.now in
    let p = c.args.p in
    let q = c.loop-q.q in
    let hp = c.requires.p_in_range in
    let hq : q < 32 = omega arith in
    let to = to_z w64 (of_z w64 c.args.to) in
    let number = to_z w64 (of_z w64 c.args.c) in
    let row = c.args.row.now in
    let read : c.get.result ≡ get_or row q None = c.get.ensures.value ∙ get_or_default row q _ None (omega arith) in
    elim c.match-get.branch [
      | in-Some w ↦
          let from = w.in-Some.from in
          let fits : FitsSigned w64 from = search rules in
          let here : w.tighten.result ≡ tighten (bound old p q) (Some to) number (get_or row q None) =
          w.tighten.ensures.value
          ∙ ap (λ d. tighten d (Some to) number (Some (to_z w64 (of_z w64 from))))
          (get_or_default c.loop-q.table (32 * p + q) _ None (omega (arith, c.loop-q.invariant.size)) ∙ c.loop-q.invariant.rest q (omega arith) hq)
          ∙ ap (λ f. tighten (bound old p q) (Some to) number (Some f)) (to_z-of_z w64 from fits)
          ∙ ap (tighten (bound old p q) (Some to) number) (sym w.in-Some.is ∙ read) in
          rw w.table-is (row-next old c.loop-q.table _ p q w.tighten.result hp hq c.loop-q.invariant here)
      | in_default w ↦ rw w.table-is
          (row-skipped old c.loop-q.table _ p q hq c.loop-q.invariant
          (sym (tighten-no_way_from (bound old p q) to number (c.requires.kept q hq)) ∙ ap (tighten (bound old p q) (Some to) number) (sym w.in_default.is ∙ read)))
    ]

pub returns-clause-here : goal.returns-clause-here
returns-clause-here c q hq =
    let old = c.args.table.now in
    let p = c.args.p in
    let row = c.args.row.now in
    elim (cases_lt q c.args.most) [
      | inl low ↦ c.loop-q.invariant.row q (omega (arith, low))
          ∙ tighten-same (bound old p q) (get_or row q None) _ c.args.to _ c.args.c (to_z-of_z _ _ c.ranges.to) (to_z-of_z _ _ c.ranges.c)
      | inr high ↦ c.loop-q.invariant.rest q (omega (arith, high)) hq
          ∙ sym (tighten-no_way_from (bound old p q) c.args.to c.args.c (c.requires.kept q hq))
          ∙ ap (tighten (bound old p q) (Some c.args.to) c.args.c) (sym (c.requires.row_ends q high hq))
    ]
