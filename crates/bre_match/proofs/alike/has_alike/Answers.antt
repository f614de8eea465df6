use Rattle.std.proofs.Common.{◌-◌, sym, arith}
use Rattle.bre_match.proofs.Likeness.{has_at}
use Rattle.bre_match.proofs.alike.has_alike.Goals as goal

pub returns-then-alike : goal.returns-then-alike
returns-then-alike c =
    record { sound = λ h. has_at c.args.asked.now c.args.ways.now (c.loop-after.after - 1) c.args.way.now _ (omega arith) (sym c.if-alike.ensures.value) }
