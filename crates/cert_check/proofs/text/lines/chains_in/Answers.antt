use Rattle.std.proofs.Common.{ℕ, List, subst, option_map, Some}
use Rattle.std.proofs.lemmas.Result.{IfOk-weaker}
use Rattle.cert_check.specs.text.Reading.{AreChains}
use Rattle.cert_check.proofs.texts.ReadChains.{chains-read, chains-unread}
use Rattle.cert_check.proofs.text.lines.chains_in.Goals as goal

pub returns-in_default : goal.returns-in_default
returns-in_default c = record {
  exact = chains-unread c.args.line.now (rw c.in_default.is at c.in_ok-texts.ensures.exact);
}

pub returns : goal.returns
returns c = record {
  exact =
      IfOk-weaker c.chains_of.result _ _
      (λ chains are.
      chains-read c.args.line.now c.in-Some.texts.items (option_map (λ v. v.items) chains) (rw c.in-Some.is at c.in_ok-texts.ensures.exact)
      (subst (λ (ts : List (List ℕ)). AreChains ts (option_map (λ v. v.items) chains)) c.as_slice.ensures.value are))
      c.chains_of.ensures.exact;
}
