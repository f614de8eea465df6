use Rattle.std.proofs.Common.{sym, ◌∙◌, arith}
use Rattle.bre_parse.specs.Tree.{sequence_of}
use Rattle.bre_parse.proofs.TextHeadItems.{untouched_ends, untouched_goes_on}
use Rattle.bre_parse.proofs.text_heads.untouched.Goals as goal

pub returns-then-not-cannot_start : goal.returns-then-not-cannot_start
returns-then-not-cannot_start c = record {
  value =
      untouched_ends (sequence_of c.args.items.now) c.args.head.now c.loop-place.place (omega arith) (sym c.cannot_start.ensures.value ∙ c.if-not-cannot_start.true)
      ∙ c.loop-place.invariant;
}

pub loop-place-preserved : goal.loop-place-preserved
loop-place-preserved c =
    untouched_goes_on (sequence_of c.args.items.now) c.args.head.now c.loop-place.place (omega arith) (sym c.cannot_start.ensures.value ∙ c.if-not-cannot_start.false)
    ∙ c.loop-place.invariant
