use Rattle.std.proofs.Common.{◌-◌, subst, sym}
use Rattle.ed_syntax.specs.Commands.{Script}
use Rattle.hints.specs.Passing.{IsVouched, with_min}
use Rattle.hints.proofs.starts.least_start.Goals as goal

pub returns-clause-least : goal.returns-clause-least
returns-clause-least c =
    λ v. c.in_ok-least_between.ensures.least (subst (λ (s : Script). IsVouched s (with_min c.args.start.now (c.in_ok-least_between.field-0 - 1))) (sym c.in_ok-read.ensures.value) v)
