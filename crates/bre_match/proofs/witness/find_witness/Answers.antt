use Rattle.std.proofs.Common.{refl, subst}
use Rattle.bre_match.specs.ClosedSets.{HasClosedSet}
use Rattle.bre_match.proofs.witnesses.ClosedSets.{closed_shows}
use Rattle.bre_match.proofs.witness.find_witness.Goals as goal

pub returns-in-Closed-clause-sound : goal.returns-in-Closed-clause-sound
returns-in-Closed-clause-sound c = λ e.
    closed_shows c.args.answers.now c.in_ok-kinds.kinds.bytes.items (c.if-not-are_plain.ensures.plain refl) c.in_ok-kinds.ensures.stand
    (subst (λ l. HasClosedSet c.args.answers.now l) c.deref.ensures.value (c.in_ok-outcome.ensures.closed c.in-Closed.is))
