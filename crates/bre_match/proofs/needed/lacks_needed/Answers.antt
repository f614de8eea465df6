use Rattle.std.proofs.Common.{sym}
use Rattle.bre_parse.specs.Tree.{sequence_of}
use Rattle.bre_match.specs.Needs.{lacks_needed}
use Rattle.bre_match.proofs.Needs.{item_lacks, item_there, nothing_lacks, no_match}
use Rattle.bre_match.proofs.needed.lacks_needed.Goals as goal

pub returns-in-None-clause-exact : goal.returns-in-None-clause-exact
returns-in-None-clause-exact c =
    item_lacks c.args.items.now c.loop-item.item-index c.item-item.result c.args.text.now c.loop-item.at (lacks_needed (sequence_of c.args.items.now) c.args.text.now c.args.from) c.loop-item-test.true c.item-item.is c.in-None.ensures.value c.loop-item.invariant

pub returns-in-None-clause-sound : goal.returns-in-None-clause-sound
returns-in-None-clause-sound c le is =
    no_match (sequence_of c.args.items.now) c.args.text.now c.args.from le
    (sym (item_lacks c.args.items.now c.loop-item.item-index c.item-item.result c.args.text.now c.loop-item.at (lacks_needed (sequence_of c.args.items.now) c.args.text.now c.args.from) c.loop-item-test.true c.item-item.is c.in-None.ensures.value c.loop-item.invariant))

pub loop-item-preserved : goal.loop-item-preserved
loop-item-preserved c =
    item_there c.args.items.now c.loop-item.item-index c.item-item.result c.args.text.now c.loop-item.at c.in-Some.after (lacks_needed (sequence_of c.args.items.now) c.args.text.now c.args.from) c.loop-item-test.true c.item-item.is c.in-Some.ensures.value c.loop-item.invariant

pub returns-clause-exact : goal.returns-clause-exact
returns-clause-exact c =
    nothing_lacks c.args.items.now c.loop-item.item-index c.args.text.now c.loop-item.at (lacks_needed (sequence_of c.args.items.now) c.args.text.now c.args.from) c.loop-item-test.false c.loop-item.invariant
