use Rattle.remarks.proofs.TellLemmas.{adds_then, adds_last}
use Rattle.remarks.proofs.shown.tell_of_range.Goals as goal

pub returns-clause-appended : goal.returns-clause-appended
returns-clause-appended c =
    adds_last c.tell_if-4.result c.tell_if-4.new.found.items
    (adds_then c.in_ok-tell_if.ensures.appended (adds_then c.in_ok-tell_if-2.ensures.appended c.in_ok-tell_if-3.ensures.appended)) c.tell_if-4.ensures.appended
