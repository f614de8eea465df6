-- A letter's place is its line's.
use Rattle.std.proofs.Common.{◌<◌, ◌∙◌, ap, length, arith}
use Rattle.ed_base.specs.Buffer.{marked_at}
use Rattle.line_store.specs.Cut.{all_lines}
use Rattle.line_store.specs.Kept.{lines_of}
use Rattle.line_store.proofs.Lettered.{length-lettered, lettered-set, set-below}
use Rattle.line_store.proofs.kept.StoreLineStore.mark.Goals as goal

pub invariant_of-self : goal.invariant_of-self
invariant_of-self g c =
    let e = c.self.inside in
    let lines = all_lines e.lines in
    let place : c.args.i < length lines = omega (arith, c.requires.place, length-lettered e.marks 0 lines, ap (λ v. length (lines_of v)) c.self.view_is) in
    rw c.set.ensures.value (set-below e.marks _ c.args.letter c.args.i c.self.invariant.0 place, c.self.invariant.1, c.self.invariant.2)

pub returns : goal.returns
returns g c =
    let e = c.self.inside in
    let lines = all_lines e.lines in
    let place : c.args.i < length lines = omega (arith, c.requires.place, length-lettered e.marks 0 lines, ap (λ v. length (lines_of v)) c.self.view_is) in
    record {
      marked =
          rw c.set.ensures.value (lettered-set e.marks 0 c.args.i c.args.i c.args.letter lines (omega (arith, c.set.ensures.letter, c.set.ensures.count)) c.set.ensures.count (omega arith) place)
          ∙ ap (λ v. marked_at c.args.i c.args.letter (lines_of v)) c.self.view_is;
    }
