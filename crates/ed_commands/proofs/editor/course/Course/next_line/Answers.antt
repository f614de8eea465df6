-- A line that isn't cut comes after those that are passed over, and what follows it is left.
use Rattle.std.proofs.Common.{◌≡◌, ◌+◌, ◌∙◌, ℕ, List, Option, length, ap, refl, subst, sym, arith}
use Rattle.std.specs.Prelude.{IfNone}
use Rattle.ed_base.specs.Lines.{lines_of}
use Rattle.ed_base.specs.Parts.{block}
use Rattle.ed_commands.specs.Courses.{NoneFrom, end_of}
use Rattle.ed_commands.specs.declared.editor.course.LikelyLine.{LikelyLine}
use Rattle.ed_commands.proofs.Courses.{counted-left, line-stopped-at, lines-after, none-of-block, none-passed}
use Rattle.ed_commands.proofs.editor.course.Course.next_line.Goals as goal

pub returns-in_err-found-clause-none : goal.returns-in_err-found-clause-none
returns-in_err-found-clause-none c tree texts needs over =
    let s = c.args.self.now in
    let P : Option LikelyLine → Type 0 = λ o. IfNone o (NoneFrom tree texts s.at (end_of s)) in
    subst P (sym c.from_residual.ensures) (λ i low high.
    none-of-block tree s.cut (end_of s) (lines_of s.rest.now) texts over refl (c.in_err-found.ensures.none tree needs) i (omega (arith, low)) high)

pub overflow_add-place : goal.overflow_add-place
overflow_add-place c =
    let s = c.args.self.now in
    let f = c.in_ok-found.found in
    omega (arith, s.fits, counted-left f.before (lines_of s.rest.now) (lines_of f.rest.now) f.line.now c.in_ok-found.ensures.stops)

pub overflow_add-self-2 : goal.overflow_add-self-2
overflow_add-self-2 c =
    let s = c.args.self.now in
    let f = c.in_ok-found.found in
    omega (arith, s.fits, counted-left f.before (lines_of s.rest.now) (lines_of f.rest.now) f.line.now c.in_ok-found.ensures.stops)

pub overflow_add-self-3 : goal.overflow_add-self-3
overflow_add-self-3 c =
    let s = c.args.self.now in
    let f = c.in_ok-found.found in
    omega (arith, s.fits, counted-left f.before (lines_of s.rest.now) (lines_of f.rest.now) f.line.now c.in_ok-found.ensures.stops)

pub invariant_of-self-2 : goal.invariant_of-self-2
invariant_of-self-2 c =
    let s = c.args.self.now in
    let f = c.in_ok-found.found in
    record {
      order = omega arith;
      fits = omega (arith, s.fits, counted-left f.before (lines_of s.rest.now) (lines_of f.rest.now) f.line.now c.in_ok-found.ensures.stops);
    }

pub returns-clause-end : goal.returns-clause-end
returns-clause-end c =
    let s = c.args.self.now in
    let f = c.in_ok-found.found in
    let e : s.cut + f.before + 1 + length (lines_of f.rest.now) ≡ s.cut + length (lines_of s.rest.now) =
    omega (arith, counted-left f.before (lines_of s.rest.now) (lines_of f.rest.now) f.line.now c.in_ok-found.ensures.stops) in
    e

pub returns-clause-order : goal.returns-clause-order
returns-clause-order c =
    let s = c.args.self.now in
    let f = c.in_ok-found.found in
    let long = counted-left f.before (lines_of s.rest.now) (lines_of f.rest.now) f.line.now c.in_ok-found.ensures.stops in
    (omega (arith, s.order), omega (arith, long), refl)

pub returns-clause-passed : goal.returns-clause-passed
returns-clause-passed c tree texts needs over = λ i low high.
    let s = c.args.self.now in
    let f = c.in_ok-found.found in
    let long = counted-left f.before (lines_of s.rest.now) (lines_of f.rest.now) f.line.now c.in_ok-found.ensures.stops in
    none-passed tree s.cut (end_of s) f.before (lines_of s.rest.now) (lines_of f.rest.now) texts f.line.now over c.in_ok-found.ensures.stops
    (omega (arith, long)) (c.in_ok-found.ensures.passed tree needs) i (omega (arith, low)) high

pub returns-clause-over : goal.returns-clause-over
returns-clause-over c texts over =
    let s = c.args.self.now in
    let f = c.in_ok-found.found in
    let next = s.cut + f.before + 1 in
    let e : next + length (lines_of f.rest.now) ≡ s.cut + length (lines_of s.rest.now) =
    omega (arith, counted-left f.before (lines_of s.rest.now) (lines_of f.rest.now) f.line.now c.in_ok-found.ensures.stops) in
    ap (λ b. block next b texts) e
    ∙ lines-after s.cut (end_of s) next f.before (lines_of s.rest.now) (lines_of f.rest.now) texts f.line.now over c.in_ok-found.ensures.stops refl

pub returns-clause-text : goal.returns-clause-text
returns-clause-text c texts over =
    let s = c.args.self.now in
    let f = c.in_ok-found.found in
    let long = counted-left f.before (lines_of s.rest.now) (lines_of f.rest.now) f.line.now c.in_ok-found.ensures.stops in
    line-stopped-at s.cut (end_of s) f.before (lines_of s.rest.now) (lines_of f.rest.now) texts f.line.now over c.in_ok-found.ensures.stops (omega (arith, long))
