-- The bytes have become the last piece.
use Rattle.std.proofs.Common.{◌∷◌, ◌++◌, ◌∙◌, [], ap}
use Rattle.ed_base.proofs.PieceLemmas.{own-closed}
use Rattle.ed_base.proofs.pieces.close_own.Goals as goal

pub returns-in-Ok-clause-same : goal.returns-in-Ok-clause-same
returns-in-Ok-clause-same c =
    own-closed _ _ c.in-Ok.part _ _
    (c.push_reserved.ensures.items ∙ ap (λ xs. xs ++ c.in-Ok.part ∷ []) c.in_ok-reserve.ensures.items)
    (c.in-Ok.ensures.value ∙ c.replace.ensures.value)
    (c.replace.ensures.after ∙ c.new.ensures.value)
