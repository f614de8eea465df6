use Rattle.std.proofs.Common.{arith, subst}
use Rattle.bre_match.specs.Watches.{first_watches}
use Rattle.bre_match.specs.ClosedSets.{LeadOn}
use Rattle.bre_match.proofs.witnesses.ClosedSets.{known_more, leads_still}
use Rattle.bre_match.proofs.witness.closure.search.Goals as goal

pub loop-number-init : goal.loop-number-init
loop-number-init c = (
  subst (λ ws. LeadOn c.args.answers.now c.args.kinds.now c.lead_on.new.known.items 0 ws) c.in_ok-first.ensures.value (c.in_ok-lead_on.ensures.on c.in-On.is),
  λ k lt. absurd (omega arith),
  c.in_ok-lead_on.ensures.few (omega arith),
)

pub loop-number-preserved : goal.loop-number-preserved
loop-number-preserved c =
    let stay = c.in_ok-lead_on_from.ensures.stay in (
      leads_still c.args.answers.now c.args.kinds.now c.loop-number.known.items c.lead_on_from.new.known.items 0
          (first_watches c.args.answers.now) stay c.loop-number.invariant.0,
      known_more c.args.answers.now c.args.kinds.now c.loop-number.known.items c.lead_on_from.new.known.items c.loop-number.number
          (omega arith) stay c.loop-number.invariant.1 (c.in_ok-lead_on_from.ensures.on c.in-On-2.is),
      c.in_ok-lead_on_from.ensures.few c.loop-number.invariant.2,
    )

pub returns : goal.returns
returns c = record {
  closed = λ e. (c.loop-number.known.items, c.loop-number.invariant.0, λ k lt. c.loop-number.invariant.1 k (omega arith));
}
