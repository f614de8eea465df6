-- A line that isn't `.` goes on with the text.
use Rattle.std.proofs.Common.{◌≡◌, ◌-◌, ◌∙◌, ap, false, length, nat_eq, sym, take}
use Rattle.std.specs.Cmp.Lexicographic.{pointwise}
use Rattle.ed_syntax.specs.reading.ReadCommands.{is_dot}
use Rattle.ed_syntax.proofs.reader.TextCuts.{cut-next, dot-same}
use Rattle.ed_syntax.proofs.script_lines.cut_text.Goals as goal

pub loop-line-preserved : goal.loop-line-preserved
loop-line-preserved c =
    let bytes = c.args.bytes.now in
    let left = c.loop-line.left.now in
    let line = c.in-Some.line.now in
    let first = c.in-Some.ensures in
    let other : is_dot line ≡ false = sym (dot-same line) ∙ ap (pointwise nat_eq line) (sym c.as_slice.ensures) ∙ sym c.eq.ensures ∙ c.if-eq.false in
    cut-next bytes (take (length bytes - length left) bytes) left line c.in-Some.rest.now c.loop-line.passed c.loop-line.invariant first.line first.cut first.first other
