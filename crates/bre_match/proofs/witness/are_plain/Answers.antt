use Rattle.std.proofs.Common.{arith, refl, subst}
use Rattle.std.proofs.lemmas.List.{take_all}
use Rattle.std.specs.List.{All}
use Rattle.bre_match.specs.Watches.{IsPlain}
use Rattle.bre_match.proofs.witnesses.WatchSteps.{all_more}
use Rattle.bre_match.proofs.witness.are_plain.Goals as goal

pub loop-answer-preserved : goal.loop-answer-preserved
loop-answer-preserved c =
    all_more IsPlain c.args.answers.now c.loop-answer.answer-index c.answer-item.result c.loop-answer-test.true c.answer-item.is c.loop-answer.invariant
    (c.if-not-is_plain.ensures.free refl, c.if-not-is_plain.ensures.in_order, c.if-not-is_plain.ensures.top refl)

pub returns : goal.returns
returns c = record {
  plain = λ e. subst (λ l. All IsPlain l) (take_all c.loop-answer.answer-index c.args.answers.now (omega arith)) c.loop-answer.invariant;
}
