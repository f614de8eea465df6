use Rattle.ed_main.proofs.Scripts.{wanted_where_unread}
use Rattle.ed_main.specs.Program as meaning
use Rattle.ed_main.specs.Program.{wants_script}
use Rattle.ed_main.proofs.program.status_of_run.Goals as goal

pub returns-in-Err-script_from-clause-ending : goal.returns-in-Err-script_from-clause-ending
returns-in-Err-script_from-clause-ending g c =
    let wanted = wanted_where_unread (wants_script c.in-Ok.job) _ c.in-Err-script_from.fault c.script_from.ensures.unasked c.in-Err-script_from.is in
    meaning.unread c.in-Ok.job c.in-Ok.ensures.given wanted c.in-Err-script_from.fault c.refuse_script.ensures.value

pub returns-in-Err-clause-ending : goal.returns-in-Err-clause-ending
returns-in-Err-clause-ending g c = meaning.refused c.in-Err.fault c.refuse.ensures.value
