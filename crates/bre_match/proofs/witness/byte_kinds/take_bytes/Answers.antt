use Rattle.std.proofs.Common.{arith}
use Rattle.bre_match.proofs.witnesses.ByteKinds.{stand_more}
use Rattle.bre_match.proofs.witness.byte_kinds.take_bytes.Goals as goal

pub loop-byte-preserved : goal.loop-byte-preserved
loop-byte-preserved c = (
  let before = c.loop-byte.invariant.0 in let longer = c.take_byte.ensures.longer in omega arith,
  stand_more c.args.answers.now c.loop-byte.bytes.items c.take_byte.new.bytes.items c.args.first c.loop-byte.byte c.in_ok-place.ensures.stay
      c.in_ok-place.ensures.stands c.loop-byte.invariant.1,
)

pub returns-in_ok-place-clause-stand : goal.returns-in_ok-place-clause-stand
returns-in_ok-place-clause-stand c = λ byte low high.
    stand_more c.args.answers.now c.loop-byte.bytes.items c.take_byte.new.bytes.items c.args.first c.loop-byte.byte c.in_ok-place.ensures.stay
    c.in_ok-place.ensures.stands c.loop-byte.invariant.1 byte low (omega arith)
