-- The landmarks are the values of an argument, by the rows of what was found.
use Rattle.std.proofs.Common.{◌≡◌, ◌≢◌, Some, None, map, codes, subst}
use Rattle.std.specs.Prelude.{IfOk, IfErr, option_map}
use Rattle.std.proofs.lemmas.Result.{IfErr-weaker}
use Rattle.clap.specs.Words.{found_of, rows_of}
use Rattle.ed_main.specs.Chains.{AreHad}
use Rattle.ed_main.specs.Words.{judged_with}
use Rattle.ed_main.specs.declared.words.WordsFault.TheVariants as fault
use Rattle.ed_main.proofs.ChainLemmas.{had_without_limit}
use Rattle.ed_main.proofs.WordsLemmas.{texts_found}
use Rattle.ed_main.proofs.words.editing.judged_in.Goals as goal

pub returns-in-Some-clause-value : goal.returns-in-Some-clause-value
returns-in-Some-clause-value c =
    let e = texts_found (found_of c.args.given.now) (codes "at") (Some (map (λ v. v.now) c.in-Some.at.now)) (rw c.in-Some.is at c.get_strs.ensures) in
    subst (λ ts. IfOk c.judged_with.result (λ judged. judged_with (option_map (λ text. text.now) c.args.path) ts (rows_of (found_of c.args.given.now)) ≡ Some judged)) e
    c.judged_with.ensures.value

pub returns-in-Some-clause-only_if_refused : goal.returns-in-Some-clause-only_if_refused
returns-in-Some-clause-only_if_refused c =
    let e = texts_found (found_of c.args.given.now) (codes "at") (Some (map (λ v. v.now) c.in-Some.at.now)) (rw c.in-Some.is at c.get_strs.ensures) in
    IfErr-weaker c.judged_with.result _ _ (λ f h differs had. h differs (had_without_limit _ _ had))
    (subst (λ ts. IfErr c.judged_with.result (λ f. f ≢ fault.Memory → AreHad None ts →
    judged_with (option_map (λ text. text.now) c.args.path) ts (rows_of (found_of c.args.given.now)) ≡ None)) e c.judged_with.ensures.only_if_refused)

pub returns-in-None-clause-value : goal.returns-in-None-clause-value
returns-in-None-clause-value c =
    let e = texts_found (found_of c.args.given.now) (codes "at") None (rw c.in-None.is at c.get_strs.ensures) in
    subst (λ ts. IfOk c.judged_with-in-None.result (λ judged. judged_with (option_map (λ text. text.now) c.args.path) ts (rows_of (found_of c.args.given.now)) ≡ Some judged)) e
    c.judged_with-in-None.ensures.value

pub returns-in-None-clause-only_if_refused : goal.returns-in-None-clause-only_if_refused
returns-in-None-clause-only_if_refused c =
    let e = texts_found (found_of c.args.given.now) (codes "at") None (rw c.in-None.is at c.get_strs.ensures) in
    IfErr-weaker c.judged_with-in-None.result _ _ (λ f h differs had. h differs (had_without_limit _ _ had))
    (subst (λ ts. IfErr c.judged_with-in-None.result (λ f. f ≢ fault.Memory → AreHad None ts →
    judged_with (option_map (λ text. text.now) c.args.path) ts (rows_of (found_of c.args.given.now)) ≡ None)) e c.judged_with-in-None.ensures.only_if_refused)
