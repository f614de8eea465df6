use Rattle.bre_parse.specs.Tree.{tree_of}
use Rattle.bre_parse.specs.Ways.{ways}
use Rattle.bre_match.proofs.SpreadSteps.{leads_next, found_known}
use Rattle.bre_match.proofs.spread.spread_simply.Goals as goal

pub loop-way-preserved : goal.loop-way-preserved
loop-way-preserved c =
    leads_next c.args.asked.now (ways (tree_of c.args.part.now) c.args.text.now) c.args.from.now c.loop-way.to.items
    c.push_new.new.all.items c.in_ok-push_new.field-0.items c.loop-way.way-index _ c.loop-way-test.true c.in_ok-push_new.ensures.value
    c.loop-way.invariant
    (found_known c.args.asked.now _ c.clear.new.self.items c.push_found.new.out.items c.deref.result.now c.push_new.new.all.items
    c.clear.ensures.items (c.in_ok-push_found.ensures.value _ c.in-Ways.ensures.value) c.deref.ensures.value
    c.in_ok-push_new.ensures.known)
