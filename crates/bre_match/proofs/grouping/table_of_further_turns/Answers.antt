use Rattle.bre_parse.specs.Tree.{tree_of}
use Rattle.bre_match.specs.Parts.{part_of}
use Rattle.bre_match.proofs.TurnTables.{further_turns}
use Rattle.bre_match.proofs.grouping.table_of_further_turns.Goals as goal

pub returns-in_ok-table-in-None : goal.returns-in_ok-table-in-None
returns-in_ok-table-in-None c = record {
  value = λ order.
      further_turns (part_of (tree_of c.args.content.now)) c.args.text.now c.args.low c.args.high c.args.most c.in_ok-on-in-None.on.items c.deref.result.now c.in_ok-table-in-None.table.items c.in-None.is c.deref.ensures.value (c.in_ok-on-in-None.ensures.value order) (c.in_ok-table-in-None.ensures.value order);
}
