-- No line matches that ends before the place does before which no part of the text matches.
use Rattle.std.proofs.Common.{◌≡◌, ℕ, List, Option, refl, subst, sym, None}
use Rattle.std.specs.Prelude.{IfNone}
use Rattle.ed_base.specs.Lines.{lines_of}
use Rattle.ed_commands.specs.Courses.{NoneMatches}
use Rattle.ed_commands.specs.declared.editor.first_line.LineFound.{LineFound}
use Rattle.ed_commands.proofs.Courses.{none-at-all, none-before, none-in-front, none-left, stops-at}
use Rattle.ed_commands.proofs.editor.first_line.first_line.Goals as goal

pub returns-in_err-place-clause-none : goal.returns-in_err-place-clause-none
returns-in_err-place-clause-none c tree needs =
    let text = c.args.text.now in
    let P : Option LineFound → Type 0 = λ o. IfNone o (NoneMatches tree (lines_of text)) in
    subst P (sym c.from_residual.ensures) (none-at-all tree text (c.in_err-place.ensures.none tree needs))

pub returns-in_err-line-clause-none : goal.returns-in_err-line-clause-none
returns-in_err-line-clause-none c tree needs =
    let text = c.args.text.now in
    let start = c.line_start-start in
    let P : Option LineFound → Type 0 = λ o. IfNone o (NoneMatches tree (lines_of text)) in
    subst P (sym c.from_residual-in_err-line.ensures)
    (none-left tree text start.result start.ensures.cut
    (none-before tree text start.result c.in_ok-place.place start.ensures.within c.in_ok-place.ensures.within start.ensures.written (c.in_ok-place.ensures.before tree needs))
    (c.in_err-line.ensures.ended.0 refl))

pub returns-clause-stops : goal.returns-clause-stops
returns-clause-stops c =
    let start = c.line_start-start in
    let found : LineFound = record { before = c.count_lines-before.result; line = c.in_ok-line.line; rest = c.in_ok-line.rest } in
    stops-at c.args.text.now found start.result start.ensures.cut c.in_ok-line.ensures.first c.count_lines-before.ensures.exact

pub returns-clause-passed : goal.returns-clause-passed
returns-clause-passed c tree needs =
    let text = c.args.text.now in
    let start = c.line_start-start in
    none-in-front tree text c.count_lines-before.result start.result start.ensures.cut c.count_lines-before.ensures.exact
    (none-before tree text start.result c.in_ok-place.place start.ensures.within c.in_ok-place.ensures.within start.ensures.written (c.in_ok-place.ensures.before tree needs))
