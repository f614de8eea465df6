-- No letter has a place, and no line the flag.
use Rattle.std.proofs.Common.{ap, sym, arith}
use Rattle.line_store.specs.Kept.{flag_count}
use Rattle.line_store.proofs.Lettered.{none-below}
use Rattle.line_store.proofs.kept.StoreLineStore.empty.Goals as goal

pub invariant_of-result : goal.invariant_of-result
invariant_of-result g c = rw c.none.ensures.value (none-below _ 26, λ i l. absurd (omega arith), sym (ap flag_count c.in_ok-empty.ensures.value))
