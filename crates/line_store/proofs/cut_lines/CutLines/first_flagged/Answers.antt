-- No line that isn't cut has the flag.
use Rattle.std.proofs.Common.{◌∙◌, ap, sym, subst, length, arith}
use Rattle.line_store.specs.Cut.{all_lines}
use Rattle.line_store.specs.Flagged.{FirstFlagged}
use Rattle.line_store.proofs.Uncut.{first-none}
use Rattle.line_store.proofs.cut_lines.CutLines.first_flagged.Goals as goal

pub returns-then-from-cut : goal.returns-then-from-cut
returns-then-from-cut g c =
    let e = c.self.inside in
    let same = ap all_lines c.self.view_is in
    record {
      first = subst (FirstFlagged c.args.from c.len.result) same
          (first-none c.args.from c.len.result (g.L.BareLines.items e.cut) e.rest (omega (arith, c.requires.place, c.len.ensures.value))
          (c.len.ensures.value ∙ sym (ap length same)) (λ i k h. absurd (omega (arith, c.len-cut.ensures.value))));
    }

pub returns-then-place-cut : goal.returns-then-place-cut
returns-then-place-cut g c =
    let e = c.self.inside in
    let all = c.len-then-place-cut in
    let same = ap all_lines c.self.view_is in
    record {
      first = subst (FirstFlagged c.args.from all.result) same
          (first-none c.args.from all.result (g.L.BareLines.items e.cut) e.rest (omega (arith, c.requires.place, all.ensures.value))
          (all.ensures.value ∙ sym (ap length same))
          (λ i k h. c.first_flagged-place.ensures.first.none i k (omega (arith, c.len-cut.ensures.value))));
    }
