use Rattle.std.proofs.Common.{sym, ◌∙◌, arith}
use Rattle.bre_parse.proofs.WordItems.{word_stopped}
use Rattle.bre_parse.proofs.words.word_to_end.Goals as goal

pub returns-in-None : goal.returns-in-None
returns-in-None c = record {
  value =
      word_stopped c.loop-at.word.items c.args.items.now c.loop-at.at c.index-items-at.result (omega arith) c.index-items-at.is
      (sym c.is_last_anchor.ensures.value ∙ c.if-is_last_anchor.false) c.in-None.ensures.value
      ∙ c.loop-at.invariant;
}
