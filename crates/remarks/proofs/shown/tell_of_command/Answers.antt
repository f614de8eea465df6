use Rattle.remarks.proofs.TellLemmas.{adds_last}
use Rattle.remarks.proofs.shown.tell_of_command.Goals as goal

pub returns-clause-appended : goal.returns-clause-appended
returns-clause-appended c =
    adds_last c.tell_of_patterns.result c.tell_of_patterns.new.found.items c.in_ok-tell_of_range.ensures.appended c.tell_of_patterns.ensures.appended
