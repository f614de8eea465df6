use Rattle.std.proofs.Common.{ap}
use Rattle.analyser.specs.declared.analysis.Start.{Start}
use Rattle.hints.proofs.Keeping.{keeps-patterns, tried-for}
use Rattle.hints.proofs.Stated.{stated-by}
use Rattle.hints.proofs.stating.with_stated.Goals as goal

pub returns-clause-tried : goal.returns-clause-tried
returns-clause-tried c =
    tried-for c.args.script.now c.args.start.now c.in_ok-opened.opened c.args.place _ (keeps-patterns c.args.start.now c.in_ok-opened.opened c.args.patterns.now c.in_ok-opened.ensures.value)
    (ap (λ (s : Start). s.max) c.in_ok-opened.ensures.value) (ap (λ (s : Start). s.landmarks) c.in_ok-opened.ensures.value) c.over_stated.ensures.tried

pub returns-clause-states : goal.returns-clause-states
returns-clause-states c =
    stated-by c.args.script.now c.args.start.now c.in_ok-opened.opened c.args.place c.args.patterns.now c.over_stated.result c.in_ok-opened.ensures.value c.over_stated.ensures.states
