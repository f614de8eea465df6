use Rattle.std.proofs.Common.{◌-◌, sym, ◌∙◌, arith}
use Rattle.bre_match.proofs.InRows.{met_there}
use Rattle.bre_match.proofs.seen.place_in_row.Goals as goal

pub returns-then-are_in_row-clause-met : goal.returns-then-are_in_row-clause-met
returns-then-are_in_row-clause-met c =
    met_there c.args.asked.now c.args.marks.now c.items_apart.result (c.loop-after.after - 1) _ c.args.mark.now c.args.mark.now
    c.items_apart.ensures.apart (omega arith) (sym c.same_turn-is_like.ensures.value ∙ c.if-is_like.true)
