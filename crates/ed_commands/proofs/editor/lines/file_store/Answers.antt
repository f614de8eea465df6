-- The store had no lines before.
use Rattle.std.proofs.Common.{◌∙◌, ap, map, append-nil}
use Rattle.ed_base.specs.Lines.{lines_of}
use Rattle.ed_base.specs.Buffer.{plain_line}
use Rattle.ed_base.specs.Parts.{inserted}
use Rattle.ed_commands.proofs.editor.lines.file_store.Goals as goal

pub returns : goal.returns
returns g c =
    let lines = map plain_line (lines_of c.args.bytes) in
    record {
      value = c.in_ok-put_file.ensures.put
          ∙ ap (λ b. inserted 0 (map plain_line (lines_of b)) (g.S.LineStore.lines c.in_ok-store.store)) c.in_ok-file.ensures.value
          ∙ ap (inserted 0 lines) c.in_ok-store.ensures.value ∙ append-nil lines;
    }
