use Rattle.std.proofs.Common.{ap, subst, ◌∙◌}
use Rattle.bre_match.specs.declared.run.Simple.TheVariants as simple
use Rattle.bre_match.specs.Runs.{IsPlain, IsSimple}
use Rattle.bre_match.proofs.GroupRuns.{closing_run}
use Rattle.bre_match.proofs.run.closing.Goals as goal

pub returns-in-Some-clause-value : goal.returns-in-Some-clause-value
returns-in-Some-clause-value c groups ws h =
    let is = c.in-Ways.is ∙ ap simple.Ways c.in-Some.is in
    closing_run c.args.group c.args.place groups c.in-Some.ends ws (subst IsPlain is c.requires.plain) (subst (λ found. IsSimple groups found ws) is h)
