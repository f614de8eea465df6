use Rattle.std.proofs.Common.{ap, sym, ◌∙◌, arith}
use Rattle.std.proofs.lemmas.List.{take_rest}
use Rattle.bre_parse.specs.Words.{agree}
use Rattle.bre_parse.proofs.WordItems.{end_agrees_later}
use Rattle.bre_parse.proofs.words.end_agrees.Goals as goal

pub loop-at-preserved : goal.loop-at-preserved
loop-at-preserved c =
    end_agrees_later c.args.one.now c.args.other.now c.loop-at.at (omega arith)
    (ap (λ left. agree left c.args.other.now) (sym (take_rest c.args.one.now c.loop-at.at)) ∙ sym c.agree.ensures.value ∙ c.if-agree.false)
    ∙ c.loop-at.invariant
