use Rattle.hints.proofs.passing.gets_past.Goals as goal

pub returns : goal.returns
returns c = record { exact = rw c.in_ok-read.ensures.value at (rw c.in_ok-copy.ensures.value at c.read_gets_past.ensures.exact) }
