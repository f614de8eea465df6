-- The chains that are given are the values of an argument, by the rows of what was found.
use Rattle.std.proofs.Common.{◌≡◌, ◌≢◌, true, false, Some, None, map, codes, subst}
use Rattle.std.specs.Prelude.{IfOk, IfErr, option_map}
use Rattle.clap.specs.Words.{found_of}
use Rattle.ed_main.specs.Chains.{AreHad}
use Rattle.ed_main.specs.Words.{may_have}
use Rattle.ed_main.specs.declared.words.WordsFault.TheVariants as fault
use Rattle.ed_main.proofs.WordsLemmas.{texts_found}
use Rattle.ed_main.proofs.words.starts.chains_in.Goals as goal

pub returns-in-Some-clause-named : goal.returns-in-Some-clause-named
returns-in-Some-clause-named c =
    let e = texts_found (found_of c.args.given.now) (codes "at") (Some (map (λ v. v.now) c.in-Some.texts.now)) (rw c.in-Some.is at c.get_strs.ensures) in
    subst (λ ts. IfOk c.chains_for.result (λ _. may_have (option_map (λ text. text.now) c.args.path) ts ≡ true)) e c.chains_for.ensures.named

pub returns-in-Some-clause-value : goal.returns-in-Some-clause-value
returns-in-Some-clause-value c =
    let e = texts_found (found_of c.args.given.now) (codes "at") (Some (map (λ v. v.now) c.in-Some.texts.now)) (rw c.in-Some.is at c.get_strs.ensures) in
    subst (λ ts. IfOk c.chains_for.result (λ chains. chains ≡ ts)) e c.chains_for.ensures.value

pub returns-in-Some-clause-only_if_refused : goal.returns-in-Some-clause-only_if_refused
returns-in-Some-clause-only_if_refused c =
    let e = texts_found (found_of c.args.given.now) (codes "at") (Some (map (λ v. v.now) c.in-Some.texts.now)) (rw c.in-Some.is at c.get_strs.ensures) in
    subst (λ ts. IfErr c.chains_for.result (λ f. f ≢ fault.Memory → AreHad c.args.most ts → may_have (option_map (λ text. text.now) c.args.path) ts ≡ false)) e
    c.chains_for.ensures.only_if_refused

pub returns-in-None-clause-named : goal.returns-in-None-clause-named
returns-in-None-clause-named c =
    let e = texts_found (found_of c.args.given.now) (codes "at") None (rw c.in-None.is at c.get_strs.ensures) in
    subst (λ ts. IfOk c.chains_for-in-None.result (λ _. may_have (option_map (λ text. text.now) c.args.path) ts ≡ true)) e c.chains_for-in-None.ensures.named

pub returns-in-None-clause-value : goal.returns-in-None-clause-value
returns-in-None-clause-value c =
    let e = texts_found (found_of c.args.given.now) (codes "at") None (rw c.in-None.is at c.get_strs.ensures) in
    subst (λ ts. IfOk c.chains_for-in-None.result (λ chains. chains ≡ ts)) e c.chains_for-in-None.ensures.value

pub returns-in-None-clause-only_if_refused : goal.returns-in-None-clause-only_if_refused
returns-in-None-clause-only_if_refused c =
    let e = texts_found (found_of c.args.given.now) (codes "at") None (rw c.in-None.is at c.get_strs.ensures) in
    subst (λ ts. IfErr c.chains_for-in-None.result (λ f. f ≢ fault.Memory → AreHad c.args.most ts → may_have (option_map (λ text. text.now) c.args.path) ts ≡ false)) e
    c.chains_for-in-None.ensures.only_if_refused
