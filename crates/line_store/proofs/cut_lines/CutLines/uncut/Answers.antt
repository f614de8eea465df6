-- Those that aren't cut come after those that are.
use Rattle.std.proofs.Common.{◌≡◌, ◌++◌, ◌∙◌, ap, sym, map}
use Rattle.ed_base.specs.Buffer.{plain_line}
use Rattle.ed_base.specs.Lines.{lines_of}
use Rattle.line_store.specs.Cut.{all_lines, lines_left}
use Rattle.line_store.proofs.Uncut.{stand-uncut}
use Rattle.line_store.proofs.cut_lines.CutLines.uncut.Goals as goal

pub returns-in_ok-try_copy-in-Some : goal.returns-in_ok-try_copy-in-Some
returns-in_ok-try_copy-in-Some g c =
    let cut = g.L.BareLines.items c.self.inside.cut in
    let file = c.in_ok-try_copy-in-Some.field-0 in
    let same : cut ++ map plain_line (lines_of file) ≡ all_lines c.args.self.now =
    ap (λ f. cut ++ map plain_line (lines_of f)) c.in_ok-try_copy-in-Some.ensures.value
    ∙ ap (λ r. cut ++ lines_left r) (sym c.in-Some.is)
    ∙ ap all_lines c.self.view_is in
    record { texts = stand-uncut c.len.result file cut (all_lines c.args.self.now) c.len.ensures.value same }
