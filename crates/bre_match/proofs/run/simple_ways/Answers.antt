use Rattle.bre_parse.specs.Tree.{tree_of}
use Rattle.bre_match.proofs.GroupRuns.{group_told}
use Rattle.bre_match.proofs.run.simple_ways.Goals as goal

pub returns-in-Some-clause-value : goal.returns-in-Some-clause-value
returns-in-Some-clause-value c =
    rw (c.in-Group.is, ← c.deref.ensures) (group_told c.plain_ways.result c.closing.result (tree_of c.deref.result.now) (tree_of c.in-Some.item.now) c.in-Group.group c.args.text.now c.args.place c.args.groups.now c.in-Some.ensures.value c.plain_ways.ensures.value (c.closing.ensures.value c.args.groups.now))
