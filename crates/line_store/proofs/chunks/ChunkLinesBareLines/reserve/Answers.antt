-- Where there is room, there are chunks enough.
use Rattle.std.proofs.Common.{ap, length, arith}
use Rattle.line_store.specs.Chunks.{joined}
use Rattle.line_store.proofs.chunks.ChunkLinesBareLines.reserve.Goals as goal

pub returns-clause-in_place : goal.returns-clause-in_place
returns-clause-in_place c = λ h.
    c.add.ensures.in_place (omega (arith, h, c.in-Some.ensures, c.self.invariant.all, ap (λ v. length (joined v.chunks)) c.self.view_is, ap (λ v. length v.chunks) c.self.view_is))
