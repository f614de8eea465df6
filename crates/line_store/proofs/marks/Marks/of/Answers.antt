-- At first no letter has a place, and at the end each has its own.
use Rattle.std.proofs.Common.{◌≡◌, ◌∙◌, ap, sym, refl, subst, arith, length, None}
use Rattle.std.proofs.lemmas.List.FromFn.{fill_by_all}
use Rattle.ed_base.specs.Buffer.{marked_place}
use Rattle.line_store.specs.Marks.{AllBelow, lettered, marks_of}
use Rattle.line_store.proofs.Lettered.{none_at}
use Rattle.line_store.proofs.Own.{lettered-own, marks-below}
use Rattle.line_store.proofs.marks.Marks.of.Goals as goal

pub loop-place-init : goal.loop-place-init
loop-place-init g c = rw c.none-marks.ensures.value (record {
  count = refl;
  done = λ k h. absurd (omega arith);
  left = λ k h. none_at 26 k;
})

pub returns : goal.returns
returns g c =
    let lines = g.S.LineStore.lines c.args.store.now in
    let laws = g.met.S.LineStore in
    let i = c.loop-place.invariant in
    let is : c.loop-place.marks ≡ marks_of lines = fill_by_all (λ k. marked_place k lines) c.loop-place.marks 26 None i.count (λ k b. i.done k (omega arith)) in
    record {
      value = is;
      own = ap (λ m. lettered m 0 lines) is ∙ lettered-own lines (laws.once c.args.store.now) (laws.known c.args.store.now);
      places = subst (AllBelow (length lines)) (sym is) (marks-below lines);
    }
