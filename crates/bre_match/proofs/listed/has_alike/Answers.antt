use Rattle.std.proofs.Common.{◌≡◌, ◌-◌, true, subst, sym, arith}
use Rattle.bre_match.specs.Alike.{alike}
use Rattle.bre_match.specs.Listed.{listed, nowhere}
use Rattle.bre_match.proofs.Likeness.{has_at}
use Rattle.bre_match.proofs.listed.has_alike.Goals as goal

pub returns-then-alike : goal.returns-then-alike
returns-then-alike c =
    record { sound = λ h. has_at c.args.asked.now (listed c.args.ways.now) (c.loop-after.after - 1) c.args.way.now nowhere (omega arith) (subst (λ w. alike c.args.asked.now w c.args.way.now ≡ true) c.way_at.ensures.value (sym c.if-alike.ensures.value)) }
