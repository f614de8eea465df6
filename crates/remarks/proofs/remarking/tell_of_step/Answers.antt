use Rattle.remarks.proofs.TellLemmas.{adds_then, adds_last}
use Rattle.remarks.proofs.remarking.tell_of_step.Goals as goal

pub returns-clause-appended : goal.returns-clause-appended
returns-clause-appended c =
    adds_last c.tell_if.result c.tell_if.new.found.items (adds_then c.in_ok-tell_of_command.ensures.appended c.in_ok-tell_of_list.ensures.appended)
    c.tell_if.ensures.appended
