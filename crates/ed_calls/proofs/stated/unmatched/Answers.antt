use Rattle.ed_calls.specs.RunOver.{lines_told}
use Rattle.ed_calls.proofs.StatedPatterns.{none_stated}
use Rattle.ed_calls.proofs.stated.unmatched.Goals as goal

pub returns-in-One : goal.returns-in-One
returns-in-One c = record { value = rw c.in-One.is (none_stated (lines_told c.args.start.now)) }
