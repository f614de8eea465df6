-- The text of a line.
use Rattle.std.proofs.Common.{◌<◌, ◌∙◌, ap, sym, length, get_or, [], arith}
use Rattle.ed_base.specs.Buffer.{plain_line}
use Rattle.line_store.specs.Cut.{all_lines}
use Rattle.line_store.specs.Kept.{lines_of}
use Rattle.line_store.proofs.Lettered.{length-lettered, get_or-lettered}
use Rattle.line_store.proofs.kept.StoreLineStore.text.Goals as goal

pub text-requires : goal.text-requires
text-requires g c = omega (arith, c.requires.place, length-lettered c.self.inside.marks 0 (all_lines c.self.inside.lines), ap (λ v. length (lines_of v)) c.self.view_is)

pub returns-clause-value : goal.returns-clause-value
returns-clause-value g c =
    let e = c.self.inside in
    let lines = all_lines e.lines in
    let place : c.args.i < length lines = omega (arith, c.requires.place, length-lettered e.marks 0 lines, ap (λ v. length (lines_of v)) c.self.view_is) in
    c.text.ensures.value ∙ sym (ap (λ l. l.bytes) (get_or-lettered e.marks 0 c.args.i c.args.i lines (plain_line []) place (omega arith)))
    ∙ ap (λ v. (get_or (lines_of v) c.args.i (plain_line [])).bytes) c.self.view_is
