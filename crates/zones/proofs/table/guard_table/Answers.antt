use Rattle.std.proofs.Common.{◌≡◌, ◌<◌, None, get_or, w64, FitsSigned, arith, ◌∙◌, refl, sym, rules}
use Rattle.std.proofs.lemmas.List.{get_or_default, get_or-replicate}
use Rattle.std.proofs.lemmas.Int.{to_z-of_z}
use Rattle.zones.specs.Zone.{bound}
use Rattle.zones.specs.Steps.{after_guard}
use Rattle.zones.proofs.Kept.{IsKept-bound}
use Rattle.zones.proofs.ReachLemmas.{any_bound-beside}
use Rattle.zones.proofs.RowWrites.{table-begun, table-next, table-skipped, table-reached}
use Rattle.zones.proofs.Writes.{tighten-same, guard_row-tightened, guard_row-left}
use Rattle.zones.proofs.table.guard_table.Goals as goal
use Rattle.zones.proofs.table.guard_table.Goals.{in-Some, in_default}

pub read_row-requires-clause-empty : goal.read_row-requires-clause-empty
read_row-requires-clause-empty c q h = get_or-replicate 32 q c.any-row.result None h ∙ c.any-row.ensures.value

pub tighten_row-requires-clause-kept : goal.tighten_row-requires-clause-kept
tighten_row-requires-clause-kept c q hq =
    rw (c.loop-p.invariant.rest c.loop-p.p (omega arith) (omega arith) q hq) (IsKept-bound c.args.table.now c.loop-p.p q c.requires.kept)

pub tighten_row-requires-clause-row_ends : goal.tighten_row-requires-clause-row_ends
tighten_row-requires-clause-row_ends c q high hq =
    c.read_row.ensures.each q hq ∙ c.requires.unknown.column c.args.y q high (omega arith) hq ∙ any_bound-beside c.args.y q (omega (arith, high))

pub loop-p-init : goal.loop-p-init
loop-p-init c = table-begun c.args.table.now _ c.told-table

pub loop-p-preserved : goal.loop-p-preserved
unfolding bound
loop-p-preserved c =
    let old = c.args.table.now in
    let table = c.loop-p.table in
    let p = c.loop-p.p in
    let hp : p < 32 = omega arith in
    let x = c.args.x in
    let y = c.args.y in
    let number = c.args.c in
    let hx : x < 32 = omega arith in
    let before = c.loop-p.invariant.rest p (omega arith) hp in
    let so_far = simp (to_z-of_z _ _ c.ranges.c) at c.loop-p.invariant in
    let read : c.get.result ≡ bound table p x = c.get.ensures.value ∙ get_or_default table _ _ None (omega (arith, c.loop-p.invariant.size)) in
    simp (to_z-of_z _ _ c.ranges.c)
    (elim c.match-get.branch [
      | in-Some w ↦
          let to_fits : FitsSigned w64 w.in-Some.to = search rules in
          rw w.table-is
          (table-next old table w.tighten_row.new.table _ p hp so_far w.tighten_row.ensures.size
          (guard_row-tightened old table w.tighten_row.new.table c.read_row.new.row x y p w.in-Some.to number hx before (sym read ∙ w.in-Some.is) c.read_row.ensures.each
          (λ q hq. w.tighten_row.ensures.here q hq
          ∙ tighten-same (bound table p q) (get_or c.read_row.new.row q None) _ w.in-Some.to _ number (to_z-of_z w64 w.in-Some.to to_fits) (to_z-of_z _ _ c.ranges.c)))
          (λ a b n ha hb. w.tighten_row.ensures.others a b n ha hb))
      | in_default w ↦ rw w.table-is
          (table-skipped old table _ p hp so_far
          (guard_row-left old old x y p number hx (λ q. IsKept-bound old p q c.requires.kept) (λ b hb. refl) (sym (before x hx) ∙ sym read ∙ w.in_default.is)))
    ])

pub returns : goal.returns
unfolding after_guard
returns c =
    let old = c.args.table.now in
    let x = c.args.x in
    record {
      exact = table-reached old c.loop-p.table _ c.loop-p.p (simp (to_z-of_z _ _ c.ranges.c) at c.loop-p.invariant)
          (λ a b high ha hb.
          guard_row-left old old x c.args.y a c.args.c (omega arith) (λ q. IsKept-bound old a q c.requires.kept) (λ d hd. refl)
          (c.requires.unknown.row a x (omega (arith, high)) ha (omega arith) ∙ any_bound-beside a x (omega (arith, high))) b hb);
    }
