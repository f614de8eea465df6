use Rattle.whole.proofs.Keeping.{fresh}
use Rattle.whole.proofs.whole.Whole.new.Goals as goal

pub invariant_of-result : goal.invariant_of-result
invariant_of-result g c = record { sound = fresh _ _ _ c.requires.unasked c.new.ensures.items }
