-- The chunk has all of the lines.
use Rattle.std.proofs.Common.{◌≡◌, ◌∷◌, ◌++◌, [], ◌∙◌, ap, map, append-nil}
use Rattle.ed_base.specs.Buffer.{plain_line, texts}
use Rattle.line_store.specs.Chunks.{joined}
use Rattle.line_store.specs.Kept.{flag_count}
use Rattle.line_store.proofs.Taken.{plain-bare, texts-plain}
use Rattle.line_store.proofs.block.chunk_of_lines.Goals as goal

pub returns-in-Ok-of_lines-clause-value : goal.returns-in-Ok-of_lines-clause-value
returns-in-Ok-of_lines-clause-value c =
    let chunk = c.in-Ok-of_lines.chunk in
    let lines = texts c.args.lines.items in
    let all : joined c.push_reserved.new.self.items ≡ map plain_line lines =
    ap joined c.push_reserved.ensures.items
    ∙ ap (λ t. joined (t ++ chunk ∷ [])) c.in-Ok.ensures.items
    ∙ append-nil chunk
    ∙ c.in-Ok-of_lines.ensures.value in
    ap texts all ∙ texts-plain lines

pub returns-in-Ok-of_lines-clause-unflagged : goal.returns-in-Ok-of_lines-clause-unflagged
returns-in-Ok-of_lines-clause-unflagged c =
    let chunk = c.in-Ok-of_lines.chunk in
    let lines = texts c.args.lines.items in
    let all : joined c.push_reserved.new.self.items ≡ map plain_line lines =
    ap joined c.push_reserved.ensures.items
    ∙ ap (λ t. joined (t ++ chunk ∷ [])) c.in-Ok.ensures.items
    ∙ append-nil chunk
    ∙ c.in-Ok-of_lines.ensures.value in
    ap flag_count all ∙ plain-bare lines
