use Rattle.std.proofs.Common.{rules}
use Rattle.zones.proofs.number.raise.Goals as goal

pub returns-in-Some-Some : goal.returns-in-Some-Some
returns-in-Some-Some c = record { value = rw (← c.get.ensures.value) (search rules) }
