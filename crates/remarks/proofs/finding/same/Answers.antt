-- What compares equal has the same number.
use Rattle.remarks.proofs.KindLemmas.{same_is}
use Rattle.remarks.proofs.finding.same.Goals as goal

pub returns : goal.returns
returns c = record { value = same_is c.are_equal.result c.args.one c.args.other c.are_equal.ensures.exact }
