-- The letters that lines had don't count, and those whose places lie after the last line mark none.
use Rattle.std.proofs.Common.{◌∙◌, ap, sym, subst, length, arith}
use Rattle.line_store.specs.Cut.{all_lines}
use Rattle.line_store.specs.Marks.{AllBelow, lettered}
use Rattle.line_store.specs.Shifts.{places_below}
use Rattle.line_store.specs.Kept.{lines_of}
use Rattle.line_store.proofs.Own.{lettered-lettered}
use Rattle.line_store.proofs.Lettered.{lettered-below, places-below}
use Rattle.line_store.proofs.kept.StoreLineStore.set_marks.Goals as goal

pub invariant_of-self : goal.invariant_of-self
invariant_of-self g c =
    let count = length (all_lines c.self.inside.lines) in
    let is = c.among-self-inside.ensures.value ∙ ap (λ n. places_below n c.args.marks.now) c.len.ensures.value in
    (subst (AllBelow count) (sym is) (places-below count c.args.marks.now), c.self.invariant.1, c.self.invariant.2)

pub returns : goal.returns
returns g c =
    let e = c.self.inside in
    let lines = all_lines e.lines in
    let is = c.among-self-inside.ensures.value ∙ ap (λ n. places_below n c.args.marks.now) c.len.ensures.value in
    record {
      marked =
          ap (λ m. lettered m 0 lines) is
          ∙ lettered-below (length lines) c.args.marks.now 0 lines (omega arith)
          ∙ sym (lettered-lettered c.args.marks.now e.marks 0 lines)
          ∙ ap (λ v. lettered c.args.marks.now 0 (lines_of v)) c.self.view_is;
    }
