use Rattle.std.proofs.Common.{ap, ◌∙◌}
use Rattle.std.proofs.lemmas.Result.{err_from_is_err_and}
use Rattle.ed_base.specs.Texts.{with_text}
use Rattle.landmarks.proofs.Ends.{end_later, stops_later, unless_map}
use Rattle.landmarks.proofs.PartReads.{tests_also, tests_lacks, tests_done, tests_stuck_also, tests_stuck_lacks, end_ampersand}
use Rattle.landmarks.proofs.parts.tests.Goals as goal

pub returns-in_err-matched-clause-spelled : goal.returns-in_err-matched-clause-spelled
returns-in_err-matched-clause-spelled c =
    let p = err_from_is_err_and c.from_residual.result c.from_residual.ensures.1 in
    rw (p.1, p.2) (unless_map c.in_err-matched.field-0.0 (tests_stuck_also c.in-Some.test.now c.in-Some.ensures.value c.in_default-after_word.ensures.spelled c.tests.invariant)
    c.in_err-matched.ensures.spelled)

pub returns-in_err-matched-clause-told : goal.returns-in_err-matched-clause-told
returns-in_err-matched-clause-told c =
    let p = err_from_is_err_and c.from_residual.result c.from_residual.ensures.1 in
    rw (p.1, p.2) (stops_later c.in_err-matched.field-0.0 (end_later c.tests.invariant.end (end_ampersand c.in-Some.ensures.value)) c.in_err-matched.ensures.told)

pub returns-in_err-lacking-clause-spelled : goal.returns-in_err-lacking-clause-spelled
returns-in_err-lacking-clause-spelled c =
    let p = err_from_is_err_and c.from_residual-in_err-lacking.result c.from_residual-in_err-lacking.ensures.1 in
    rw (p.1, p.2) (unless_map c.in_err-lacking.field-0.0 (tests_stuck_lacks c.in-Some.test.now c.in-Some-after_word.key_text.now c.in-Some.ensures.value c.in-Some-after_word.ensures.spelled c.tests.invariant)
    c.in_err-lacking.ensures.spelled)

pub returns-in_err-lacking-clause-told : goal.returns-in_err-lacking-clause-told
returns-in_err-lacking-clause-told c =
    let p = err_from_is_err_and c.from_residual-in_err-lacking.result c.from_residual-in_err-lacking.ensures.1 in
    rw (p.1, p.2) (stops_later c.in_err-lacking.field-0.0
    (end_later (end_later c.tests.invariant.end (end_ampersand c.in-Some.ensures.value)) c.in-Some-after_word.ensures.end) c.in_err-lacking.ensures.told)

pub tests-preserved-in_default-after_word : goal.tests-preserved-in_default-after_word
tests-preserved-in_default-after_word c =
    tests_also c.in-Some.ensures.value c.in_ok-matched.ensures.spelled c.in_ok-matched.ensures.end
    (c.in_ok-add.ensures.value ∙ ap (λ text. with_text text c.tests.also) c.as_slice.ensures.value) c.tests.invariant

pub tests-preserved : goal.tests-preserved
tests-preserved c =
    tests_lacks c.in-Some.ensures.value c.in-Some-after_word.ensures.spelled c.in-Some-after_word.ensures.end c.in_ok-lacking.ensures.spelled c.in_ok-lacking.ensures.end
    (c.in_ok-add-2.ensures.value ∙ ap (λ text. with_text text c.tests.lacks) c.as_slice-in-Some.ensures.value) c.tests.invariant

pub returns-clause-spelled : goal.returns-clause-spelled
returns-clause-spelled c = tests_done c.in_default.ensures.value c.tests.invariant
