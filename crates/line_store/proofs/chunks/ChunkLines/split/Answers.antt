-- The place is in the first part, or in the second.
use Rattle.std.proofs.Common.{◌≡◌, ◌∙◌, [], ap, length, get_or, arith}
use Rattle.line_store.specs.Chunks.{full, lines_before, Split}
use Rattle.line_store.proofs.Joined.{before-next}
use Rattle.line_store.proofs.chunks.ChunkLines.split.Goals as goal

pub returns-clause-fits : goal.returns-clause-fits
returns-clause-fits c =
    let old = c.args.self.now in
    let k = c.args.k in
    let keep = c.kept-keep.result in
    let new = c.split_chunk.new.chunks.items in
    let s : Split k keep c.self.inside.chunks.items new = c.in_ok-split_chunk.ensures.split in
    let before : lines_before k new ≡ lines_before k old.chunks = s.before ∙ ap (λ v. lines_before k v.chunks) c.self.view_is in
    let whole : length (get_or c.self.inside.chunks.items k []) ≡ full = ap (λ v. length (get_or v.chunks k [])) c.self.view_is ∙ c.requires.full in
    let next = before-next k new (omega (arith, s.chunk)) in
    (record { chunk = s.chunk; low = omega (arith, s.lower); high = omega (arith, s.lower, s.upper) }, omega (arith, s.lower, s.upper))
