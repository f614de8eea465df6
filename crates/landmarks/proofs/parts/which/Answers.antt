use Rattle.std.proofs.Common.{sym}
use Rattle.std.proofs.lemmas.Result.{err_from_is_err_and}
use Rattle.landmarks.specs.Spelled.{SpellsWhich}
use Rattle.landmarks.proofs.Ends.{end_later, stops_later, unless_map}
use Rattle.landmarks.proofs.Determined.{no_which_only, no_which_count, no_which_key, no_digit}
use Rattle.landmarks.proofs.parts.which.Goals as goal

pub returns-in_err-pattern-clause-spelled : goal.returns-in_err-pattern-clause-spelled
returns-in_err-pattern-clause-spelled c =
    let p = err_from_is_err_and c.from_residual.result c.from_residual.ensures.1 in
    rw (p.1, p.2) (unless_map c.in_err-pattern.field-0.0 (no_which_only c.in-Some.ensures.spelled) c.in_err-pattern.ensures.spelled)

pub returns-in_err-pattern-clause-told : goal.returns-in_err-pattern-clause-told
returns-in_err-pattern-clause-told c =
    let p = err_from_is_err_and c.from_residual.result c.from_residual.ensures.1 in
    rw (p.1, p.2) (stops_later c.in_err-pattern.field-0.0 c.in-Some.ensures.end c.in_err-pattern.ensures.told)

pub returns-in-Some-clause-spelled : goal.returns-in-Some-clause-spelled
returns-in-Some-clause-spelled c =
    SpellsWhich.only c.args.text.now c.in-Some.key_text.now c.in_ok-pattern.rest.now c.in_ok-pattern.pattern c.in-Some.ensures.spelled c.in_ok-pattern.ensures.spelled

pub returns-in-Some-clause-end : goal.returns-in-Some-clause-end
returns-in-Some-clause-end c = end_later c.in-Some.ensures.end c.in_ok-pattern.ensures.end

pub returns-in_err-n-clause-spelled : goal.returns-in_err-n-clause-spelled
returns-in_err-n-clause-spelled c =
    let p = err_from_is_err_and c.from_residual-in_err-n.result c.from_residual-in_err-n.ensures.1 in
    rw (p.1, p.2) (unless_map c.in_err-n.field-0.0 (no_which_count c.in_default.ensures.spelled (sym c.if-begins_with_digit.ensures.value)) c.in_err-n.ensures.spelled)

pub returns-in_err-first-clause-spelled : goal.returns-in_err-first-clause-spelled
returns-in_err-first-clause-spelled c =
    let p = err_from_is_err_and c.from_residual-in_err-first.result c.from_residual-in_err-first.ensures.1 in
    rw (p.1, p.2) (unless_map c.in_err-first.field-0.0 (no_which_key c.in_default.ensures.spelled (no_digit c.args.text.now (sym c.if-begins_with_digit.ensures.value)))
    c.in_err-first.ensures.spelled)

pub returns-then-begins_with_digit-clause-spelled : goal.returns-then-begins_with_digit-clause-spelled
returns-then-begins_with_digit-clause-spelled c =
    SpellsWhich.numbered c.args.text.now c.in_ok-n.rest.now c.in_ok-n.n c.in_ok-n.ensures.spelled

pub returns-clause-spelled : goal.returns-clause-spelled
returns-clause-spelled c =
    SpellsWhich.first c.args.text.now c.in_ok-first.rest.now c.in_ok-first.first c.in_ok-first.ensures.spelled
