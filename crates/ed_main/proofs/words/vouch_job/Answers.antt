-- The scripts are the values of an argument, by the rows of what was found.
use Rattle.std.proofs.Common.{◌≡◌, ◌≢◌, Some, None, map, codes, subst}
use Rattle.std.specs.Prelude.{IfOk, IfErr}
use Rattle.clap.specs.Words.{found_of, rows_of}
use Rattle.ed_main.specs.Words as meaning
use Rattle.ed_main.specs.declared.words.WordsFault.TheVariants as fault
use Rattle.ed_main.proofs.WordsLemmas.{texts_found}
use Rattle.ed_main.proofs.words.vouch_job.Goals as goal

pub returns-in-Some-clause-value : goal.returns-in-Some-clause-value
returns-in-Some-clause-value c =
    let e = texts_found (found_of c.args.given.now) (codes "script") (Some (map (λ v. v.now) c.in-Some.scripts.now)) (rw c.in-Some.is at c.get_strs.ensures) in
    subst (λ ts. IfOk c.vouch_job_of.result (λ job. meaning.vouch_job_of (rows_of (found_of c.args.given.now)) ts ≡ Some job)) e c.vouch_job_of.ensures.value

pub returns-in-Some-clause-only_if_refused : goal.returns-in-Some-clause-only_if_refused
returns-in-Some-clause-only_if_refused c =
    let e = texts_found (found_of c.args.given.now) (codes "script") (Some (map (λ v. v.now) c.in-Some.scripts.now)) (rw c.in-Some.is at c.get_strs.ensures) in
    subst (λ ts. IfErr c.vouch_job_of.result (λ f. f ≢ fault.Memory → meaning.AreHadIn (rows_of (found_of c.args.given.now)) → meaning.vouch_job_of (rows_of (found_of c.args.given.now)) ts ≡ None)) e
    c.vouch_job_of.ensures.only_if_refused

pub returns-in-None-clause-value : goal.returns-in-None-clause-value
returns-in-None-clause-value c =
    let e = texts_found (found_of c.args.given.now) (codes "script") None (rw c.in-None.is at c.get_strs.ensures) in
    subst (λ ts. IfOk c.vouch_job_of-in-None.result (λ job. meaning.vouch_job_of (rows_of (found_of c.args.given.now)) ts ≡ Some job)) e
    c.vouch_job_of-in-None.ensures.value

pub returns-in-None-clause-only_if_refused : goal.returns-in-None-clause-only_if_refused
returns-in-None-clause-only_if_refused c =
    let e = texts_found (found_of c.args.given.now) (codes "script") None (rw c.in-None.is at c.get_strs.ensures) in
    subst (λ ts. IfErr c.vouch_job_of-in-None.result (λ f. f ≢ fault.Memory → meaning.AreHadIn (rows_of (found_of c.args.given.now)) → meaning.vouch_job_of (rows_of (found_of c.args.given.now)) ts ≡ None)) e
    c.vouch_job_of-in-None.ensures.only_if_refused
