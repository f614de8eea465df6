-- The part has become the last piece.
use Rattle.std.proofs.Common.{◌∷◌, ◌++◌, ◌∙◌, [], ap, sym}
use Rattle.ed_base.proofs.PieceLemmas.{part-closed}
use Rattle.ed_base.proofs.pieces.close_part.Goals as goal

pub returns-in-Some-take-clause-same : goal.returns-in-Some-take-clause-same
returns-in-Some-take-clause-same c =
    part-closed c.args.closed.now.items c.close_own.new.closed.items c.push_reserved.new.self.items c.args.own.now c.close_own.new.own c.in-Some-take.part c.args.last.now c.take.new.self
    c.in_ok-close_own.ensures.same
    c.in_ok-close_own.ensures.none
    (c.push_reserved.ensures.items ∙ ap (λ xs. xs ++ c.in-Some-take.part ∷ []) c.in_ok-reserve.ensures.items)
    (c.in-Some.is ∙ sym c.take.ensures.value ∙ c.in-Some-take.is)
    c.take.ensures.after
