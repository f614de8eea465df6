use Rattle.std.proofs.Common.{◌≡◌, drop}
use Rattle.bre_parse.specs.Tree.{sequence_of}
use Rattle.bre_parse.specs.Groups.{refers}
use Rattle.bre_parse.proofs.tree.+refer.Given as goal

abbrev pub invariant-any_refers-loop-item : goal.invariant-any_refers-loop-item
invariant-any_refers-loop-item l = refers (sequence_of (drop l.item-index l.items)) ≡ refers (sequence_of l.items)
