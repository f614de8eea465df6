use Rattle.std.proofs.Common.{arith, ◌-◌, List, ℕ, sym, subst}
use Rattle.std.specs.Prelude.{All}
use Rattle.ed_base.specs.Lines.{lines_of}
use Rattle.landmarks.specs.Places.{NoneMatches}
use Rattle.landmarks.specs.Misplaced.{IsWrong, IsFirstWith, IsBetween}
use Rattle.landmarks.specs.declared.misplaced.Misfit.TheVariants as misfit
use Rattle.landmarks.proofs.Firsts.{if-none, if-some}
use Rattle.landmarks.proofs.places.if_clear.Goals as goal

pub returns-in_ok-try_copy-in-Some : goal.returns-in_ok-try_copy-in-Some
returns-in_ok-try_copy-in-Some c =
    let lines = lines_of c.args.file.now in
    let first = if-some _ _ _ _ c.in-Some.is c.in_ok-line.ensures.value in
    let there = subst (λ (ps : List (List ℕ)). IsFirstWith (IsBetween lines c.args.before c.args.place c.in-Some.line) (NoneMatches lines c.args.before (c.args.place - 1)) ps c.in-Some.pattern.now)
    c.members.ensures.value first in
    record {
      value = subst (λ (p : List ℕ). IsWrong lines c.args.before c.args.landmark.now (misfit.Between c.args.place c.in-Some.line p)) (sym c.in_ok-try_copy-in-Some.ensures.value)
          (IsWrong.between c.args.place c.in-Some.line c.in-Some.pattern.now c.requires.far c.requires.alone c.requires.also c.requires.lacks there);
    }

pub returns-in-None : goal.returns-in-None
returns-in-None c =
    let lines = lines_of c.args.file.now in
    let none = if-none _ _ _ c.in-None.is c.in_ok-line.ensures.value in
    record {
      value = record {
        sought = c.requires.far.sought;
        distances = c.requires.far.distances;
        alone = c.requires.alone;
        also = c.requires.also;
        lacks = c.requires.lacks;
        none = subst (λ (ps : List (List ℕ)). All (NoneMatches lines c.args.before (c.args.place - 1)) ps) c.members.ensures.value none;
      };
    }

pub between-requires-clause-from : goal.between-requires-clause-from
between-requires-clause-from c = omega (arith, c.requires.far.distances.below)

pub between-requires-clause-inside : goal.between-requires-clause-inside
between-requires-clause-inside c = c.requires.far.distances.inside
