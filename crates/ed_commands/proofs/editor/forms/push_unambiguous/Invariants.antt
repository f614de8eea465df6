-- What is written, and the bytes that are left after what fills the row, make all.
use Rattle.std.proofs.Common.{◌≡◌, ◌≤◌, ◌++◌, drop}
use Rattle.ed_syntax.specs.meaning.Forms.{folded, row_length}
use Rattle.ed_commands.proofs.editor.forms.push_unambiguous.Given as goal

abbrev pub invariant-loop-byte : goal.invariant-loop-byte
invariant-loop-byte l = record {
  parts : l.output ++ folded l.column (drop l.byte-index l.text) ≡ l.fn.output ++ folded 0 l.text;
  fits : l.column ≤ row_length;
}
