-- The last chunk goes, which has no lines.
use Rattle.std.proofs.Common.{◌≡◌, ◌-◌, ◌<◌, ◌∙◌, [], ap, length, get_or, arith}
use Rattle.std.proofs.lemmas.List.{get_or_default}
use Rattle.line_store.specs.Chunks.{joined, lines_before}
use Rattle.line_store.proofs.Joined.{joined-less, before-less}
use Rattle.line_store.proofs.chunk_room.spare_chunk.Goals as goal

pub returns-then-len-eq0-clause-joined : goal.returns-then-len-eq0-clause-joined
returns-then-len-eq0-clause-joined c =
    let chunks = c.args.chunks.now.items in
    let last = c.len-last.result - 1 in
    let within : last < length chunks = omega arith in
    let read : c.index.result.now ≡ get_or chunks last [] = c.index.ensures ∙ get_or_default chunks last c.index.result.now [] within in
    ap joined c.remove.ensures.items ∙ joined-less chunks last within (omega (arith, ap length read))

pub returns-then-len-eq0-clause-before : goal.returns-then-len-eq0-clause-before
returns-then-len-eq0-clause-before c =
    let last = c.len-last.result - 1 in
    ap (λ t. lines_before c.args.k t) c.remove.ensures.items ∙ before-less c.args.chunks.now.items c.args.k last c.if-k-last.true (omega arith)
