use Rattle.std.proofs.Common.{◌≡◌, drop}
use Rattle.bre_parse.specs.Tree.{sequence_of}
use Rattle.bre_parse.specs.TextHeads.{begins_with_items}
use Rattle.bre_parse.proofs.text_heads.begins_with_items.Given as goal

abbrev pub invariant-loop-at : goal.invariant-loop-at
invariant-loop-at l = begins_with_items (drop l.at l.head) (sequence_of (drop l.at l.items)) ≡ begins_with_items l.head (sequence_of l.items)
