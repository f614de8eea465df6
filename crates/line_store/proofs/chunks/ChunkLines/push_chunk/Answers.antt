-- The chunk begins after all lines.
use Rattle.std.proofs.Common.{◌∙◌, ◌++◌, ap, length, get_or, arith}
use Rattle.line_store.specs.Chunks.{joined}
use Rattle.line_store.proofs.Filled.{joined-more}
use Rattle.line_store.proofs.Joined.{before-most}
use Rattle.line_store.proofs.Offsets.{known-pushed}
use Rattle.line_store.proofs.chunks.ChunkLines.push_chunk.Goals as goal

pub push-requires-2-clause-order : goal.push-requires-2-clause-order
push-requires-2-clause-order c = λ k h.
    let e = c.self.inside in
    omega (
      arith,
      ap (λ t. get_or t k 0) c.in_ok-reserve.ensures.unchanged,
      c.self.invariant.before k (omega (arith, c.self.invariant.long, ap length c.in_ok-reserve.ensures.unchanged)),
      before-most k e.chunks.items,
      c.self.invariant.all,
    )

pub invariant_of-self-2 : goal.invariant_of-self-2
invariant_of-self-2 c =
    let e = c.self.inside in
    known-pushed e.count _ e.starts c.reserve.new.self c.push-2.new.self e.chunks.items c.push.new.self.items c.args.chunk c.self.invariant
    c.in_ok-push.ensures.items (omega arith) c.reserve.ensures.unchanged c.in_ok-reserve.ensures.room
    c.push-2.ensures.length c.push-2.ensures.last c.push-2.ensures.earlier c.push-2.ensures.room

pub returns-clause-pushed : goal.returns-clause-pushed
returns-clause-pushed c =
    joined-more c.self.inside.chunks.items c.push.new.self.items c.args.chunk c.in_ok-push.ensures.items
    ∙ ap (λ v. joined v.chunks ++ c.args.chunk) c.self.view_is
