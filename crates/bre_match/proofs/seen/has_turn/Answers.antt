use Rattle.std.proofs.Common.{◌-◌, sym, arith}
use Rattle.bre_match.proofs.Likeness.{has_turn_at}
use Rattle.bre_match.proofs.seen.has_turn.Goals as goal

pub returns-then-same_turn : goal.returns-then-same_turn
returns-then-same_turn c =
    record { sound = λ h. has_turn_at c.args.bounds c.args.asked.now c.args.marks.now (c.loop-after.after - 1) c.args.mark.now _ (omega arith) (sym c.if-same_turn.ensures.value) }
