use Rattle.std.proofs.Common.{ap, arith}
use Rattle.analyser.specs.declared.analysis.Start.{Start}
use Rattle.hints.proofs.Keeping.{keeps-bounded, tried-for, within-itself}
use Rattle.hints.proofs.further.with_needed_lines.Goals as goal

pub returns : goal.returns
returns c = record {
  tried =
      tried-for c.args.script.now c.args.start.now c.in_ok-opened.opened c.args.place _
      (keeps-bounded c.args.start.now c.in_ok-opened.opened c.in-Some.min c.args.start.now.max c.in_ok-opened.ensures.value (omega (arith, c.if-min-start.false)) (within-itself c.args.start.now.max))
      (ap (λ (s : Start). s.max) c.in_ok-opened.ensures.value) (ap (λ (s : Start). s.landmarks) c.in_ok-opened.ensures.value) c.first_past.ensures.tried;
}
