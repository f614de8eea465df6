-- The new lines stand before those that stood after the others.
use Rattle.std.proofs.Common.{arith}
use Rattle.line_store.proofs.Taken.{unflagged-front, unflagged-past}
use Rattle.line_store.proofs.kept.place_replaced.Goals as goal

pub returns-then-place-from : goal.returns-then-place-from
returns-then-place-from c = λ lines new within many bare none.
    unflagged-front c.args.place c.args.from c.args.to new lines (omega arith) (omega (arith, c.requires.order)) none

pub returns : goal.returns
returns c = λ lines new within many bare none.
    unflagged-past c.args.place c.args.from c.args.to c.saturating_add.result new lines (omega arith) c.requires.order within bare (omega arith) none
