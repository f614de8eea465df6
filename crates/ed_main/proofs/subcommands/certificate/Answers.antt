-- What `clap` is told of `CERT`: it is that of `[CERT]`, and has to be given.
use Rattle.std.proofs.Common.{ap, true}
use Rattle.clap.specs.Words.{Rule}
use Rattle.ed_main.proofs.subcommands.certificate.Goals as goal

pub returns-clause-value : goal.returns-clause-value
returns-clause-value c =
    rw (c.help.ensures, c.required.ensures) (ap (λ (rule : Rule). record rule { required = true }) c.notes.ensures.value)
