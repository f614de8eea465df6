-- A line less in its chunk.
use Rattle.std.proofs.Common.{◌∙◌, ap, length, arith}
use Rattle.std.proofs.lemmas.List.Edits.{length-remove}
use Rattle.line_store.specs.Chunks.{joined}
use Rattle.line_store.proofs.Found.{found, line-found, removed-found, length-with}
use Rattle.line_store.proofs.Offsets.{room-least}
use Rattle.line_store.proofs.chunks.ChunkLinesBareLines.remove.Goals as goal

pub returns-clause-value : goal.returns-clause-value
returns-clause-value c =
    c.take_in-line.ensures.value
    ∙ line-found c.take_in-line.result
    (found c.args.i c.chunk_of-k.result c.start.result c.args.self.now c.chunk_of-k.ensures.chunk c.start.ensures.value)

pub returns-clause-removed : goal.returns-clause-removed
returns-clause-removed c =
    c.tidy.ensures.unchanged
    ∙ removed-found c.take_in-line.new.self
    (found c.args.i c.chunk_of-k.result c.start.result c.args.self.now c.chunk_of-k.ensures.chunk c.start.ensures.value)
    c.take_in-line.ensures.removed

pub returns-clause-keeps_room : goal.returns-clause-keeps_room
returns-clause-keeps_room c =
    let old = c.args.self.now in
    let left = c.take_in-line.new.self in
    let less = removed-found left
    (found c.args.i c.chunk_of-k.result c.start.result old c.chunk_of-k.ensures.chunk c.start.ensures.value)
    c.take_in-line.ensures.removed in
    room-least old.chunks c.tidy.new.self.chunks
    (omega (arith, c.tidy.ensures.length, length-with c.chunk_of-k.result old left _ c.take_in-line.ensures.removed))
    (omega (arith, ap length c.tidy.ensures.unchanged, ap length less, length-remove (joined old.chunks) c.args.i c.requires.place))
