-- No line is left.
use Rattle.std.proofs.Common.{◌≡◌, ◌++◌, [], ◌∙◌, refl, sym, ap, subst, map, append-nil}
use Rattle.std.specs.Prelude.{◌↔◌, IsNone}
use Rattle.ed_base.specs.Lines.{lines_of}
use Rattle.ed_base.specs.Buffer.{plain_line}
use Rattle.line_store.proofs.block.cut_lines.Goals as goal

pub returns : goal.returns
returns c =
    let lines = c.loop-lines.lines.items in
    let ended = subst (λ next. IsNone next ↔ (c.loop-lines.rest ≡ [])) c.in_default.is c.in_ok-line.ensures.ended in
    let all : lines ≡ map plain_line (lines_of c.args.file.now) =
    sym (ap (λ b. lines ++ map plain_line (lines_of b)) (ended.0 refl) ∙ append-nil lines) ∙ c.loop-lines.invariant in
    record { value = all }
