use Rattle.std.proofs.Common.{refl, ap, arith}
use Rattle.ed_syntax.specs.PublicScript.{script_value}
use Rattle.hints.specs.Widest.{start_with, as_given}
use Rattle.analyser.specs.declared.analysis.Start.{Start}
use Rattle.hints.proofs.Enough.{widest-by, widest-ok}
use Rattle.hints.proofs.Narrowed.{narrowed-given}
use Rattle.hints.proofs.widest.widest_as_given.Goals as goal

pub returns : goal.returns
returns c = record {
  widest = widest-ok (script_value c.args.script.now) c.args.given.now (start_with c.args.given.now c.in_ok-fewest.fewest c.args.given.now.has) c.as_given-2.result
      (widest-by (script_value c.args.script.now) c.args.given.now c.in_ok-start.start c.args.min c.in_ok-fewest.fewest c.args.given.now.has
      c.in_ok-start.ensures.value c.requires.allowed c.requires.given_least
      (record {
        vouched = c.in_ok-fewest.ensures.vouched;
        least = c.in_ok-fewest.ensures.least;
        kept = c.in_ok-fewest.ensures.kept;
        below = c.in_ok-fewest.ensures.below;
      })
      (as_given refl))
      c.as_given-2.ensures.value;
  narrowed = λ patterns. narrowed-given c.args.given.now c.in_ok-fewest.fewest c.args.min patterns c.as_given-2.result
      (omega (arith, c.in_ok-fewest.ensures.below, ap (λ (s : Start). s.min) c.in_ok-start.ensures.value)) c.as_given-2.ensures.value;
}
