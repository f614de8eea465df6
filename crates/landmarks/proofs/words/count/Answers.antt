use Rattle.std.proofs.Common.{length, ap, subst}
use Rattle.ed_syntax.specs.spelling.Characters.{after_blanks}
use Rattle.ed_syntax.specs.spelling.Absence.{NoNumber}
use Rattle.ed_syntax.specs.spelling.Addressing.{SpellsNumber}
use Rattle.landmarks.specs.declared.chain_fault.ChainWrong.TheVariants as wrong
use Rattle.landmarks.proofs.WordReads.{wrong_here, no_some, zero_only, no_count, end_number}
use Rattle.landmarks.proofs.words.count.Goals as goal

pub returns-in_default-clause-told : goal.returns-in_default-clause-told
returns-in_default-clause-told c =
    let none = subst NoNumber c.after_blanks-here.ensures.value c.in_default.ensures.spelled in
    wrong_here c.args.text.now wrong.Number _ (ap length c.after_blanks-here.ensures.value) (no_some (after_blanks c.args.text.now) none)

pub returns-then-n-eq0-clause-spelled : goal.returns-then-n-eq0-clause-spelled
returns-then-n-eq0-clause-spelled c =
    let is = subst (λ here. SpellsNumber here c.in-Some.rest.now c.in-Some.n) c.after_blanks-here.ensures.value c.in-Some.ensures.spelled in
    no_count c.args.text.now (zero_only (after_blanks c.args.text.now) c.in-Some.rest.now c.in-Some.n is c.if-n-eq0.true)

pub returns-then-n-eq0-clause-told : goal.returns-then-n-eq0-clause-told
returns-then-n-eq0-clause-told c =
    let is = subst (λ here. SpellsNumber here c.in-Some.rest.now c.in-Some.n) c.after_blanks-here.ensures.value c.in-Some.ensures.spelled in
    wrong_here c.args.text.now wrong.Number _ (ap length c.after_blanks-here.ensures.value)
    (zero_only (after_blanks c.args.text.now) c.in-Some.rest.now c.in-Some.n is c.if-n-eq0.true)

pub returns-clause-end : goal.returns-clause-end
returns-clause-end c =
    let is = subst (λ here. SpellsNumber here c.in-Some.rest.now c.in-Some.n) c.after_blanks-here.ensures.value c.in-Some.ensures.spelled in
    end_number c.args.text.now c.in-Some.rest.now c.in-Some.n is
