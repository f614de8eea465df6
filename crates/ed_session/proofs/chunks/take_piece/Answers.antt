use Rattle.std.proofs.Common.{sym, ◌∙◌}
use Rattle.ed_session.proofs.Left.{left-piece}
use Rattle.ed_session.proofs.chunks.take_piece.Goals as goal

pub returns-in-Some : goal.returns-in-Some
returns-in-Some c = record { first = c.in-Some.ensures.first ∙ sym (left-piece _ _ c.in-Some.ensures.some) }
