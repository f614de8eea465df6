-- First those that are cut are written, and then those that are left.
use Rattle.std.proofs.Common.{◌≡◌, ◌++◌, ◌-◌, ◌∙◌, ap, sym, subst, ℕ, List, map, min}
use Rattle.std.proofs.lemmas.Result.{on_ok_weaker}
use Rattle.ed_base.specs.Buffer.{Line, plain_line, texts}
use Rattle.ed_base.specs.Lines.{AreLines, bytes_of, lines_of}
use Rattle.ed_base.specs.Parts.{block}
use Rattle.line_store.specs.Cut.{all_lines, lines_left}
use Rattle.line_store.proofs.Uncut.{lines-both, written-both}
use Rattle.line_store.proofs.cut_lines.CutLines.push_lines.Goals as goal

pub returns-in-Some-clause-appended : goal.returns-in-Some-clause-appended
returns-in-Some-clause-appended g c =
    let cut = g.L.BareLines.items c.self.inside.cut in
    let from = c.args.from in
    let to = c.args.to in
    let n = c.len-cut.result in
    let text = lines_of c.in-Some.file in
    let before = c.args.output.now in
    let middle = c.push_lines.new.output in
    let after = c.push_lines-in-Some.new.output in
    let same : cut ++ map plain_line text ≡ all_lines c.args.self.now =
    ap (λ r. cut ++ lines_left r) (sym c.in-Some.is) ∙ ap all_lines c.self.view_is in
    let first : middle ≡ before ++ bytes_of (texts (block (min from n) (min to n) cut)) =
    c.in_ok-push_lines.ensures.appended
    ∙ ap (λ k. before ++ bytes_of (texts (block k c.min-2.result cut))) c.min.ensures
    ∙ ap (λ k. before ++ bytes_of (texts (block (min from n) k cut))) c.min-2.ensures in
    let left : block c.saturating_sub.result c.saturating_sub-in-Some.result text ≡ block (from - n) (to - n) text =
    ap (λ k. block k c.saturating_sub-in-Some.result text) c.saturating_sub.ensures
    ∙ ap (λ k. block (from - n) k text) c.saturating_sub-in-Some.ensures in
    on_ok_weaker c.push_lines-in-Some.result
    (λ second.
    written-both from to n before middle after cut text c.len-cut.ensures.value c.requires.order first
    (second ∙ ap (λ t. middle ++ bytes_of t) left)
    ∙ ap (λ t. before ++ bytes_of (texts (block from to t))) same)
    c.push_lines-in-Some.ensures.appended

pub returns-in-Some-clause-lines : goal.returns-in-Some-clause-lines
returns-in-Some-clause-lines g c =
    let cut = g.L.BareLines.items c.self.inside.cut in
    let from = c.args.from in
    let to = c.args.to in
    let n = c.len-cut.result in
    let same : cut ++ map plain_line (lines_of c.in-Some.file) ≡ all_lines c.args.self.now =
    ap (λ r. cut ++ lines_left r) (sym c.in-Some.is) ∙ ap all_lines c.self.view_is in
    let P : ℕ → Type 0 = λ k. AreLines (texts (block k c.min-2.result cut)) in
    let Q : ℕ → Type 0 = λ k. AreLines (texts (block (min from n) k cut)) in
    let R : List Line → Type 0 = λ t. AreLines (texts (block from to t)) in
    let first = subst Q c.min-2.ensures (subst P c.min.ensures c.in_ok-push_lines.ensures.lines) in
    on_ok_weaker c.push_lines-in-Some.result
    (λ second. subst R same (lines-both from to n cut c.in-Some.file c.len-cut.ensures.value c.requires.order first))
    c.push_lines-in-Some.ensures.appended
