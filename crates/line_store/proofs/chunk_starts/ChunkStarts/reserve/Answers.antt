-- There is room for a group more than the chunks fill.
use Rattle.std.proofs.Common.{ap, length, arith}
use Rattle.line_store.proofs.Grouped.{length-groups}
use Rattle.line_store.proofs.chunk_starts.ChunkStarts.reserve.Goals as goal

pub returns-clause-room : goal.returns-clause-room
returns-clause-room c =
    let e = c.self.inside in
    omega (
      arith,
      c.in_ok-reserve.ensures.ok,
      c.in_ok-reserve.ensures.len,
      c.in_ok-reserve-2.ensures.ok,
      c.in_ok-reserve-2.ensures.len,
      c.self.invariant.all,
      length-groups e.groups.items e.within.items,
      ap (λ v. length v.starts) c.self.view_is,
    )
