-- A line more in its chunk.
use Rattle.std.proofs.Common.{◌∙◌, ap, length, insert, arith}
use Rattle.std.proofs.lemmas.List.Edits.{length-insert}
use Rattle.line_store.specs.Chunks.{joined}
use Rattle.line_store.proofs.Found.{inserted-touched, length-with}
use Rattle.line_store.proofs.Offsets.{room-spent}
use Rattle.line_store.proofs.chunks.ChunkLinesBareLines.insert.Goals as goal

pub returns-clause-inserted : goal.returns-clause-inserted
returns-clause-inserted c =
    inserted-touched c.args.at c.in-Ok.k c.start.result c.make_room.new.self c.put_in.new.self c.args.line c.in-Ok.ensures.fits.0 c.start.ensures.value c.put_in.ensures.inserted
    ∙ ap (λ t. insert t c.args.at c.args.line) c.in-Ok.ensures.unchanged

pub returns-clause-spends_one : goal.returns-clause-spends_one
returns-clause-spends_one c =
    let old = c.args.self.now in
    let room = c.make_room.new.self in
    let more = inserted-touched c.args.at c.in-Ok.k c.start.result room c.put_in.new.self c.args.line c.in-Ok.ensures.fits.0 c.start.ensures.value c.put_in.ensures.inserted in
    room-spent old.chunks c.put_in.new.self.chunks
    (omega (arith, c.in-Ok.ensures.no_fewer, length-with c.in-Ok.k room c.put_in.new.self _ c.put_in.ensures.inserted))
    (ap length (more ∙ ap (λ t. insert t c.args.at c.args.line) c.in-Ok.ensures.unchanged) ∙ length-insert (joined old.chunks) c.args.at c.args.line c.requires.place)
