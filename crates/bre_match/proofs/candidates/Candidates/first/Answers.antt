-- No part has a match that ends before the needed word does where it stands first.
use Rattle.std.proofs.Common.{◌≡◌, ◌+◌, ℕ, List, Option, Some, None, length, ap, subst, sym}
use Rattle.std.specs.Prelude.{IfNone}
use Rattle.memchr.specs.Find.{FindsNeedle}
use Rattle.bre_match.specs.Passing.{NoneEndsBefore, needed_by}
use Rattle.bre_match.proofs.NeededWords.{none_before_word, none_without_word}
use Rattle.bre_match.proofs.candidates.Candidates.first.Goals as goal

pub returns-in_err-passed-clause-none : goal.returns-in_err-passed-clause-none
returns-in_err-passed-clause-none c tree needs =
    let text = c.args.text.now in
    let word = needed_by c.args.self.now in
    let F : Option ℕ → Type 0 = λ o. FindsNeedle text word 0 o in
    let I : Option ℕ → Type 0 = λ o. IfNone o (NoneEndsBefore tree text (length text + 1)) in
    subst I (sym c.from_residual.ensures) (none_without_word tree word text (length text + 1) needs (subst F c.in_err-passed.was c.find.ensures))

pub returns-clause-before : goal.returns-clause-before
returns-clause-before c tree needs =
    let text = c.args.text.now in
    let word = needed_by c.args.self.now in
    let F : Option ℕ → Type 0 = λ o. FindsNeedle text word 0 o in
    let P : ℕ → Type 0 = λ n. NoneEndsBefore tree text (c.in_ok-passed.passed + n) in
    subst P (sym c.args.self.now.long) (none_before_word tree word text c.in_ok-passed.passed needs (subst F c.in_ok-passed.was c.find.ensures))
