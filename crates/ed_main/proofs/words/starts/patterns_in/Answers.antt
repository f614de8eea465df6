-- The patterns that are given are the values of an argument, by the rows of what was found.
use Rattle.std.proofs.Common.{◌≡◌, ◌≢◌, true, false, Some, None, map, codes, subst}
use Rattle.std.specs.Prelude.{IfOk, IfErr, option_map}
use Rattle.clap.specs.Words.{found_of}
use Rattle.ed_main.specs.Words.{may_state, stated}
use Rattle.ed_main.specs.declared.words.WordsFault.TheVariants as fault
use Rattle.ed_main.proofs.WordsLemmas.{texts_found}
use Rattle.ed_main.proofs.words.starts.patterns_in.Goals as goal

pub returns-in-Some-clause-patterns : goal.returns-in-Some-clause-patterns
returns-in-Some-clause-patterns c =
    let e = texts_found (found_of c.args.given.now) (codes "has") (Some (map (λ v. v.now) c.in-Some.texts.now)) (rw c.in-Some.is at c.get_strs.ensures) in
    subst (λ ts. IfOk c.patterns_for.result (λ _. may_state (option_map (λ text. text.now) c.args.path) c.args.most ts ≡ true)) e c.patterns_for.ensures.patterns

pub returns-in-Some-clause-value : goal.returns-in-Some-clause-value
returns-in-Some-clause-value c =
    let e = texts_found (found_of c.args.given.now) (codes "has") (Some (map (λ v. v.now) c.in-Some.texts.now)) (rw c.in-Some.is at c.get_strs.ensures) in
    subst (λ ts. IfOk c.patterns_for.result (λ has. has ≡ stated c.args.asked ts)) e c.patterns_for.ensures.value

pub returns-in-Some-clause-only_if_refused : goal.returns-in-Some-clause-only_if_refused
returns-in-Some-clause-only_if_refused c =
    let e = texts_found (found_of c.args.given.now) (codes "has") (Some (map (λ v. v.now) c.in-Some.texts.now)) (rw c.in-Some.is at c.get_strs.ensures) in
    subst (λ ts. IfErr c.patterns_for.result (λ f. f ≢ fault.Memory → may_state (option_map (λ text. text.now) c.args.path) c.args.most ts ≡ false)) e c.patterns_for.ensures.only_if_refused

pub returns-in-None-clause-patterns : goal.returns-in-None-clause-patterns
returns-in-None-clause-patterns c =
    let e = texts_found (found_of c.args.given.now) (codes "has") None (rw c.in-None.is at c.get_strs.ensures) in
    subst (λ ts. IfOk c.patterns_for-in-None.result (λ _. may_state (option_map (λ text. text.now) c.args.path) c.args.most ts ≡ true)) e c.patterns_for-in-None.ensures.patterns

pub returns-in-None-clause-value : goal.returns-in-None-clause-value
returns-in-None-clause-value c =
    let e = texts_found (found_of c.args.given.now) (codes "has") None (rw c.in-None.is at c.get_strs.ensures) in
    subst (λ ts. IfOk c.patterns_for-in-None.result (λ has. has ≡ stated c.args.asked ts)) e c.patterns_for-in-None.ensures.value

pub returns-in-None-clause-only_if_refused : goal.returns-in-None-clause-only_if_refused
returns-in-None-clause-only_if_refused c =
    let e = texts_found (found_of c.args.given.now) (codes "has") None (rw c.in-None.is at c.get_strs.ensures) in
    subst (λ ts. IfErr c.patterns_for-in-None.result (λ f. f ≢ fault.Memory → may_state (option_map (λ text. text.now) c.args.path) c.args.most ts ≡ false)) e c.patterns_for-in-None.ensures.only_if_refused
