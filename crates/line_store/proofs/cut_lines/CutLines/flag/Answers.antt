-- The line is cut, and so has a flag of its own.
use Rattle.std.proofs.Common.{◌≡◌, ◌<◌, ◌++◌, ◌∙◌, true, ap, sym, length, arith}
use Rattle.std.proofs.lemmas.Result.{on_ok_weaker}
use Rattle.ed_base.specs.Buffer.{flagged_at}
use Rattle.line_store.specs.Cut.{all_lines, lines_left}
use Rattle.line_store.proofs.Uncut.{flagged-first}
use Rattle.line_store.proofs.cut_lines.CutLines.flag.Goals as goal

pub returns-clause-flagged : goal.returns-clause-flagged
returns-clause-flagged g c =
    let e = c.self.inside in
    let cut = g.L.BareLines.items e.cut in
    let rest = lines_left e.rest in
    let i = c.args.i in
    let within : i < length cut = omega (arith, c.in_ok-open_line.ensures.opened, ap (λ v. length v.cut) c.self.view_is) in
    let same : cut ++ rest ≡ all_lines c.args.self.now = ap all_lines c.self.view_is ∙ c.open_line.ensures.unchanged in
    on_ok_weaker c.flag.result
    (λ is. ap (λ t. t ++ rest) is ∙ sym (flagged-first i true cut rest within) ∙ ap (flagged_at i true) same)
    c.flag.ensures.flagged
