use Rattle.std.proofs.Common.{◌∙◌, ap, Vec, Global}
use Rattle.bre_parse.specs.Ways.{Way}
use Rattle.bre_match.proofs.SpreadSteps.{knows_new, knows_old, put_new}
use Rattle.bre_match.proofs.kinds.push_new.Goals.{then-not-has_alike+in_ok-add+in_ok-push+in_ok-push-2, else-not-has_alike}
use Rattle.bre_match.proofs.kinds.push_new.Goals as goal

pub loop-way-preserved : goal.loop-way-preserved
loop-way-preserved c =
    elim c.if-not-has_alike.branch [
      | then-not-has_alike+in_ok-add+in_ok-push+in_ok-push-2 w ↦ record {
        put = put_new c.args.all.now.items c.loop-way.all.items c.loop-way.added.items c.if-not-has_alike.all.items
            c.if-not-has_alike.added.items _ (ap (λ (v : Vec Way Global). v.items) w.all-is ∙ w.in_ok-push.ensures.items)
            (ap (λ (v : Vec Way Global). v.items) w.added-is ∙ w.in_ok-push-2.ensures.items) c.loop-way.invariant.put;
        known = knows_new c.args.asked.now c.args.found.now c.loop-way.all.items c.if-not-has_alike.all.items c.loop-way.way-index _
            c.loop-way-test.true (ap (λ (v : Vec Way Global). v.items) w.all-is ∙ w.in_ok-push.ensures.items)
            c.loop-way.invariant.known;
      }
      | else-not-has_alike w ↦ record {
        put = rw (w.all-is, w.added-is) c.loop-way.invariant.put;
        known = knows_old c.args.asked.now c.args.found.now c.loop-way.all.items c.if-not-has_alike.all.items c.loop-way.way-index _
            c.loop-way-test.true (ap (λ (v : Vec Way Global). v.items) w.all-is)
            (rw c.deref.ensures.value at (c.has_alike.ensures.sound w.if-not-has_alike.false)) c.loop-way.invariant.known;
      }
    ]
