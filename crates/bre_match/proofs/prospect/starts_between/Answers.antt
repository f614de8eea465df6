use Rattle.std.proofs.Common.{◌≡◌, ◌∙◌, [], ap, subst, Vec, Global}
use Rattle.bre_parse.specs.Tree.{sequence_of}
use Rattle.bre_parse.specs.Ways.{Way, ways}
use Rattle.bre_match.specs.Outlooks.{Each}
use Rattle.bre_match.proofs.SpreadSteps.{none_more, start_put}
use Rattle.bre_match.proofs.prospect.starts_between.Goals.{then-not-cannot_begin+in_ok-push, else-not-cannot_begin}
use Rattle.bre_match.proofs.prospect.starts_between.Goals as goal

pub loop-start-preserved : goal.loop-start-preserved
loop-start-preserved c =
    elim c.if-not-cannot_begin.branch [
      | then-not-cannot_begin+in_ok-push w ↦
          start_put (sequence_of c.args.items.now) c.args.text.now c.args.low c.loop-start.start c.loop-start.all.items
          c.if-not-cannot_begin.all.items (ap (λ (v : Vec Way Global). v.items) w.all-is ∙ w.in_ok-push.ensures.items)
          c.loop-start.invariant
      | else-not-cannot_begin w ↦
          λ each. none_more (sequence_of c.args.items.now) c.args.text.now c.args.low c.loop-start.start
          (c.loop-start.invariant (subst
          (λ (v : Vec Way Global). Each (λ way. ways (sequence_of c.args.items.now) c.args.text.now way.0 way.1 ≡ []) v.items) w.all-is each))
          (c.cannot_begin.ensures.sound w.if-not-cannot_begin.false)
    ]
