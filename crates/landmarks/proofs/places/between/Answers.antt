use Rattle.std.proofs.Common.{◌-◌, List, ℕ, subst, arith}
use Rattle.ed_base.specs.Lines.{lines_of}
use Rattle.ed_syntax.specs.meaning.Values.{matches}
use Rattle.landmarks.specs.Looking.{IsFirstPassing}
use Rattle.landmarks.specs.Places.{NoneMatches}
use Rattle.landmarks.specs.Misplaced.{IsBetween}
use Rattle.landmarks.proofs.Firsts.{first-here, all-here, if-none, if-some}
use Rattle.landmarks.proofs.places.between.Goals as goal

pub returns-in-Some : goal.returns-in-Some
returns-in-Some c =
    let lines = lines_of c.args.file.now in
    let found = subst (λ (p : List ℕ). IsFirstPassing (matches p) lines c.args.before (c.args.place - 1) c.in-Some.line) c.as_slice.ensures.value
    (if-some _ c.in-Some.line _ _ c.in-Some.is c.in_ok-found.ensures.value) in
    record {
      value = first-here (IsBetween lines c.args.before c.args.place c.in-Some.line) (NoneMatches lines c.args.before (c.args.place - 1)) c.args.patterns.now
          c.loop-pattern.pattern-index c.pattern-item.result (omega arith) c.pattern-item.is c.loop-pattern.invariant
          (record { after = found.after; above = omega (arith, found.through, c.requires.from); matched = found.passes; first = found.earlier });
    }

pub loop-pattern-preserved : goal.loop-pattern-preserved
loop-pattern-preserved c =
    let lines = lines_of c.args.file.now in
    all-here (NoneMatches lines c.args.before (c.args.place - 1)) c.args.patterns.now c.loop-pattern.pattern-index c.pattern-item.result (omega arith) c.pattern-item.is
    c.loop-pattern.invariant (subst (λ (p : List ℕ). NoneMatches lines c.args.before (c.args.place - 1) p) c.as_slice.ensures.value (if-none _ _ _ c.in-None.is c.in_ok-found.ensures.value))
