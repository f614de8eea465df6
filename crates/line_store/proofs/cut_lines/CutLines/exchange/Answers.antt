-- The line is cut, and so has a place of its own.
use Rattle.std.proofs.Common.{◌≡◌, ◌<◌, ◌++◌, ◌∙◌, ap, sym, length, set, arith}
use Rattle.std.proofs.lemmas.List.{set-append_left}
use Rattle.std.proofs.lemmas.Result.{on_ok_weaker}
use Rattle.line_store.specs.Cut.{all_lines, lines_left}
use Rattle.line_store.proofs.cut_lines.CutLines.exchange.Goals as goal

pub returns-in-Ok-clause-exchanged : goal.returns-in-Ok-clause-exchanged
returns-in-Ok-clause-exchanged g c =
    let e = c.self.inside in
    let cut = g.L.BareLines.items e.cut in
    let rest = lines_left e.rest in
    let i = c.args.i in
    let within : i < length cut = omega (arith, c.in-Ok.ensures.opened, ap (λ v. length v.cut) c.self.view_is) in
    let same : cut ++ rest ≡ all_lines c.args.self.now = ap all_lines c.self.view_is ∙ c.open_line.ensures.unchanged in
    on_ok_weaker c.exchange.result
    (λ is. ap (λ t. t ++ rest) is ∙ sym (set-append_left cut rest i c.args.line within) ∙ ap (λ t. set t i c.args.line) same)
    c.exchange.ensures.exchanged
