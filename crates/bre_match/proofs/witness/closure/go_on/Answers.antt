use Rattle.std.proofs.Common.{[], ◌∷◌, ap, ◌∙◌}
use Rattle.bre_match.specs.ClosedSets.{place_after}
use Rattle.bre_match.specs.Watches.{next_watches}
use Rattle.bre_match.proofs.witnesses.ClosedSets.{byte_more}
use Rattle.bre_match.proofs.witness.closure.go_on.Goals as goal

pub returns-clause-on : goal.returns-clause-on
returns-clause-on c = λ e kinds k is leads.
    byte_more c.args.answers.now kinds c.args.known.now.items c.take_in.new.known.items (place_after c.args.from) c.args.watches.now k c.args.byte
    c.in_ok-after.after is c.in_ok-on.ensures.stay leads
    (c.in_ok-after.ensures.value ∙ ap (λ p. next_watches c.args.answers.now c.args.watches.now (c.args.byte ∷ c.args.byte ∷ []) p) c.place_after.ensures.value)
    (c.in_ok-on.ensures.done e)
