-- As many lines stand before each chunk as were counted.
use Rattle.std.proofs.Common.{refl, ap, length, arith}
use Rattle.ed_base.specs.Parts.{exchanged}
use Rattle.line_store.specs.Chunks.{joined}
use Rattle.line_store.proofs.Offsets.{known-counted}
use Rattle.line_store.proofs.Taken.{length-replaced}
use Rattle.line_store.proofs.chunks.ChunkLines.swap_in.Goals as goal

pub count-requires-clause-room : goal.count-requires-clause-room
count-requires-clause-room c =
    let before = c.self.inside.chunks.items in
    let new = c.args.new.now.items in
    omega (
      arith,
      ap length c.in_ok-taken.ensures.put,
      length-replaced c.args.low c.args.high (length before) new before c.requires.order (omega (arith, c.requires.last, ap (λ v. length v.chunks) c.self.view_is)) refl,
      c.in_ok-reserve.ensures.room,
      c.len.ensures,
      c.self.invariant.long,
    )

pub count-requires-clause-count : goal.count-requires-clause-count
count-requires-clause-count c =
    let new = c.args.new.now.items in
    omega (
      arith,
      ap (λ t. length (joined t)) c.in_ok-taken.ensures.put,
      ap (λ v. length (joined (exchanged c.args.low c.args.high new v.chunks))) c.self.view_is,
      c.requires.count,
      c.ranges.count.fits,
    )

pub invariant_of-self-2 : goal.invariant_of-self-2
invariant_of-self-2 c =
    let before = c.self.inside.chunks.items in
    let new = c.args.new.now.items in
    let all = c.exchange_chunks.new.chunks.items in
    known-counted c.args.count c.count.new.self all
    (omega (
      arith,
      ap (λ t. length (joined t)) c.in_ok-taken.ensures.put,
      ap (λ v. length (joined (exchanged c.args.low c.args.high new v.chunks))) c.self.view_is,
      c.requires.count,
    ))
    (omega (
      arith,
      ap length c.in_ok-taken.ensures.put,
      length-replaced c.args.low c.args.high (length before) new before c.requires.order (omega (arith, c.requires.last, ap (λ v. length v.chunks) c.self.view_is)) refl,
      c.in_ok-reserve.ensures.room,
      c.len.ensures,
      c.self.invariant.long,
      c.count.ensures.room,
    ))
    c.count.ensures.length c.count.ensures.starts
