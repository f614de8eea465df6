-- The lines of a span, each with its newline.
use Rattle.std.proofs.Common.{◌≡◌, ℕ, ◌+◌, ◌∙◌, ◌++◌, List, [], ◌∷◌, refl, ap, sym, subst, append_assoc}
use Rattle.std.specs.Result.{OnOk}
use Rattle.ed_base.specs.Buffer.{Line, texts}
use Rattle.ed_base.specs.Lines.{newline, bytes_of}
use Rattle.ed_base.specs.Parts.{between}
use Rattle.ed_syntax.specs.Commands.{Plain}
use Rattle.ed_syntax.specs.meaning.Forms.{all_written}
use Rattle.ed_commands.proofs.editor.lines.write_plain.Goals as goal

plain-written : (number : ℕ) (lines : List Line) → bytes_of (texts lines) ≡ all_written Plain number lines
plain-written number [] = refl
plain-written number (line ∷ lines) =
    ap (λ t. line.bytes ++ newline ∷ t) (plain-written (number + 1) lines)
    ∙ sym (append_assoc line.bytes (newline ∷ []) (all_written Plain (number + 1) lines))

pub returns : goal.returns
returns g c =
    let first = c.args.span.first in
    let lines = g.S.LineStore.lines c.args.store.now in
    let P : List ℕ → Type 0 = λ t. OnOk c.push_lines.result (c.push_lines.new.output ≡ c.args.output.now ++ t) in
    record { appended = subst P (plain-written first (between first c.args.span.last lines)) c.push_lines.ensures.appended }
