use Rattle.std.proofs.Common.{sym, ◌∙◌, subst}
use Rattle.landmarks.specs.ChainFaults.{IsFaultIn}
use Rattle.landmarks.proofs.Chains.{no_chain_newline}
use Rattle.landmarks.proofs.Told.{fault_told, fault_unread}
use Rattle.landmarks.proofs.chain.read_chain.Goals as goal

pub returns-in-Some-clause-exact : goal.returns-in-Some-clause-exact
returns-in-Some-clause-exact c = λ other. no_chain_newline c.args.text.now c.in-Some.place c.in-Some.ensures.value.1

pub returns-in-Ok-clause-exact : goal.returns-in-Ok-clause-exact
returns-in-Ok-clause-exact c = record { line = c.in_default.ensures.value; landmarks = c.in-Ok.ensures.spelled }

pub returns-in-Err-clause-exact : goal.returns-in-Err-clause-exact
returns-in-Err-clause-exact c = λ other.
    fault_unread c.args.text.now c.in-Err.stop c.in-Err.ensures.spelled (λ same. other (c.fault_in.ensures.value ∙ same))

pub returns-in-Err-clause-told : goal.returns-in-Err-clause-told
returns-in-Err-clause-told c = subst (IsFaultIn c.args.text.now) (sym c.fault_in.ensures.value) (fault_told c.args.text.now c.in-Err.stop c.in-Err.ensures.told)
