-- No file has the landmarks of the chains that the texts spell.
use Rattle.std.proofs.Common.{map, subst}
use Rattle.hints.specs.Nowhere.{SomeFileHas}
use Rattle.ed_main.proofs.ChainLemmas.{none_had}
use Rattle.ed_main.proofs.chains.Chains.read.Goals as goal

pub returns-then-branch-clause-only_if_refused : goal.returns-then-branch-clause-only_if_refused
returns-then-branch-clause-only_if_refused c = λ differs.
    none_had c.chains_are_spelled_once.ensures.unambiguous c.args.most (map (λ text. text.now) c.args.texts.now) c.in_ok-chains.chains
    c.in_ok-chains.ensures.spelled
    (subst (λ chains. SomeFileHas c.args.most chains → ⊥) c.as_slice.ensures.value (c.in_ok-no_file_has.ensures.sound c.if-branch.true))
