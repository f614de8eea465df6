-- A line that isn't cut has no flag.
use Rattle.std.proofs.Common.{◌++◌, ◌∙◌, false, ap, sym, arith}
use Rattle.ed_base.specs.Buffer.{flagged_at}
use Rattle.line_store.specs.Cut.{all_lines, lines_left}
use Rattle.line_store.proofs.Uncut.{flag-left, flagged-first, flagged-plain}
use Rattle.line_store.proofs.cut_lines.CutLines.unflag.Goals as goal

pub returns-then-i-len : goal.returns-then-i-len
returns-then-i-len g c =
    let e = c.self.inside in
    let i = c.args.i in
    let cut = g.L.BareLines.items e.cut in
    let same = ap all_lines c.self.view_is in
    record {
      unflagged = sym same
          ∙ sym (flagged-plain i (cut ++ lines_left e.rest) (flag-left c.len.result i cut e.rest c.len.ensures.value (omega arith)))
          ∙ ap (flagged_at i false) same;
    }

pub returns : goal.returns
returns g c =
    let e = c.self.inside in
    let i = c.args.i in
    let rest = lines_left e.rest in
    record {
      unflagged = ap (λ t. t ++ rest) c.unflag.ensures.unflagged
          ∙ sym (flagged-first i false (g.L.BareLines.items e.cut) rest (omega (arith, c.len.ensures.value)))
          ∙ ap (λ v. flagged_at i false (all_lines v)) c.self.view_is;
    }
