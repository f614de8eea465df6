use Rattle.std.proofs.Common.{arith, List, ℕ, true, false, sym, subst}
use Rattle.ed_base.specs.Lines.{lines_of}
use Rattle.landmarks.specs.Misplaced.{IsWrong}
use Rattle.landmarks.specs.declared.misplaced.Misfit.TheVariants as misfit
use Rattle.landmarks.proofs.Firsts.{if-none, if-some, all-at, first-at}
use Rattle.landmarks.proofs.places.if_lacking.Goals as goal

pub returns-in_ok-try_copy-in-Some : goal.returns-in_ok-try_copy-in-Some
returns-in_ok-try_copy-in-Some c =
    let lines = lines_of c.args.file.now in
    let first = if-some _ c.in-Some.pattern _ _ c.in-Some.is c.in_ok-pattern.ensures.value in
    let there = first-at lines c.args.place c.line_at.result.now true false c.args.landmark.now.lacks c.members.result.now c.in-Some.pattern.now c.line_at.ensures.value c.members.ensures.value first in
    record {
      value = subst (λ (p : List ℕ). IsWrong lines c.args.before c.args.landmark.now (misfit.Matched c.args.place p)) (sym c.in_ok-try_copy-in-Some.ensures.value)
          (IsWrong.matched c.args.place c.in-Some.pattern.now c.requires.far c.requires.alone c.requires.also there);
    }

pub if_clear-requires-clause-lacks : goal.if_clear-requires-clause-lacks
if_clear-requires-clause-lacks c =
    all-at (lines_of c.args.file.now) c.args.place c.line_at.result.now false c.args.landmark.now.lacks c.members.result.now c.line_at.ensures.value c.members.ensures.value
    (if-none _ _ _ c.in-None.is c.in_ok-pattern.ensures.value)

pub line_at-requires-clause-from : goal.line_at-requires-clause-from
line_at-requires-clause-from c = omega (arith, c.requires.far.distances.below)

pub line_at-requires-clause-within : goal.line_at-requires-clause-within
line_at-requires-clause-within c = c.requires.far.distances.inside
