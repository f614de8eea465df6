-- What is known of the start that a job asks for.
use Rattle.std.specs.Prelude.{IfSome}
use Rattle.ed_main.specs.declared.job.Job.{Job}
use Rattle.ed_main.specs.declared.job.Job.TheVariants as job
use Rattle.ed_main.specs.Wanted.{IsWanted}

abbrev pub IsGiven : Job → Type 0
IsGiven (job.Edit options script writes judged) = IfSome judged IsWanted
IsGiven (job.Vouch wanted script all) = IsWanted wanted
IsGiven (job.Judge wanted scripts detail) = IsWanted wanted
IsGiven (job.Explain wanted script) = IsWanted wanted
IsGiven other = Unit {0}
