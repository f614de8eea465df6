-- What is written, and the lines that are left, make all.
use Rattle.std.proofs.Common.{◌≡◌, ◌+◌, ◌++◌, drop, take}
use Rattle.ed_syntax.specs.PublicTypes.{form_value}
use Rattle.ed_syntax.specs.meaning.Forms.{all_written, lines_written}
use Rattle.ed_commands.proofs.editor.lines.write_formed.Given as goal

abbrev pub invariant-loop-i : goal.invariant-loop-i
invariant-loop-i g l =
    let form = form_value l.form in
    let lines = g.S.LineStore.lines l.store in
    l.output ++ all_written form (l.i + 1) (drop l.i (take l.fn.span.last lines))
    ≡ l.fn.output ++ lines_written form l.fn.span.first l.fn.span.last lines
