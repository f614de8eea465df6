-- Where the place is after a chunk, there is a next one.
use Rattle.std.proofs.Common.{◌≡◌, ◌<◌, ◌∙◌, [], ap, length, get_or, arith}
use Rattle.std.proofs.lemmas.List.{get_or_default}
use Rattle.line_store.proofs.Joined.{before-next, before-within, next-chunk}
use Rattle.line_store.proofs.chunk_room.make_room_at.Goals as goal

pub overflow_add-before : goal.overflow_add-before
overflow_add-before c =
    let i = c.draws.invariant in
    let now = c.draws.chunks.items in
    let k = c.draws.k in
    let read : c.index.result.now ≡ get_or now k [] = c.index.ensures ∙ get_or_default now k c.index.result.now [] i.within in
    omega (arith, i.start, before-within k now i.within, ap length i.same, ap length read)

pub draw_back-requires-clause-chunk : goal.draw_back-requires-clause-chunk
draw_back-requires-clause-chunk c =
    let i = c.draws.invariant in
    let now = c.draws.chunks.items in
    let k = c.draws.k in
    let read : c.index.result.now ≡ get_or now k [] = c.index.ensures ∙ get_or_default now k c.index.result.now [] i.within in
    next-chunk k c.args.at now i.within (omega (arith, i.start, ap length read)) (omega (arith, ap length i.same))

pub draws-preserved : goal.draws-preserved
draws-preserved c =
    let i = c.draws.invariant in
    let k = c.draws.k in
    let now = c.draws.chunks.items in
    let new = c.draw_back.new.chunks.items in
    let within : k < length new = omega (arith, c.draw_back.ensures.length) in
    let read : c.index-in-draws.result.now ≡ get_or new k [] = c.index-in-draws.ensures ∙ get_or_default new k c.index-in-draws.result.now [] within in
    let here : c.index.result.now ≡ get_or now k [] = c.index.ensures ∙ get_or_default now k c.index.result.now [] i.within in
    record {
      same = c.draw_back.ensures.joined ∙ i.same;
      long = c.draw_back.ensures.length ∙ i.long;
      within = omega (arith, c.draw_back.ensures.length, next-chunk k c.args.at now i.within (omega (arith, i.start, ap length here)) (omega (arith, ap length i.same)));
      start = omega (arith, i.start, before-next k new within, c.draw_back.ensures.before, ap length read);
      low = omega (arith, i.start, before-next k now i.within, c.draw_back.ensures.one, ap length read, ap length here);
      room = c.draw_back.ensures.room;
    }
