-- What is known is what the state says.
use Rattle.std.proofs.Common.{sym, subst}
use Rattle.std.proofs.lemmas.Result.{IfOk-weaker}
use Rattle.ed_calls.specs.Known.{IsTrueOf}
use Rattle.ed_calls.specs.declared.known.Known.{Known}
use Rattle.ed_calls.proofs.KnownStates.{known-is-true}
use Rattle.ed_calls.proofs.known.Known.of.Goals as goal

pub returns-clause-sound : goal.returns-clause-sound
returns-clause-sound c = IfOk-weaker c.said_by.result _ _ (λ known is. λ e stands.
    subst (λ (k : Known). IsTrueOf k e) (sym is) (known-is-true c.args.state.now e stands)) c.said_by.ensures.value
