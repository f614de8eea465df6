-- A text without a newline is one line.
use Rattle.std.proofs.Common.{List, ◌∷◌, ◌++◌, ◌∙◌, [], ap, sym, map}
use Rattle.ed_base.specs.Lines.{IsLine}
use Rattle.ed_base.specs.Buffer.{Line, plain_line}
use Rattle.ed_commands.proofs.Rewritten.{one-line}
use Rattle.ed_commands.proofs.editor.blocks.split_text.Goals as goal

pub returns-then-is_one_line : goal.returns-then-is_one_line
returns-then-is_one_line c =
    let is_line : IsLine c.args.text = rw (← c.as_slice.ensures.value) (c.is_one_line.ensures.line c.if-is_one_line.true) in
    record {
      value = c.push_reserved.ensures.items
          ∙ ap (λ (l : List Line). l ++ c.in_ok-line.line ∷ []) c.in_ok-lines.ensures.items
          ∙ ap (λ (l : Line). l ∷ []) c.in_ok-line.ensures.value
          ∙ ap (map plain_line) (sym (one-line c.args.text is_line));
    }
