-- The command with the name was told.
use Rattle.ed_calls.proofs.Sayings.{names_told}
use Rattle.ed_calls.proofs.vouching.refuse_name.Goals as goal

pub returns-clause-says : goal.returns-clause-says
returns-clause-says g c =
    λ script starts found. names_told script starts c.args.place c.cannot_told.result _ _ found c.cannot_told.ensures.value c.tell.ensures.says
