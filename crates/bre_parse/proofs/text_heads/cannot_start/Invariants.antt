use Rattle.std.proofs.Common.{◌≡◌, drop}
use Rattle.bre_parse.specs.Tree.{sequence_of}
use Rattle.bre_parse.specs.TextHeads.{cannot_start}
use Rattle.bre_parse.proofs.text_heads.cannot_start.Given as goal

abbrev pub invariant-loop-item : goal.invariant-loop-item
invariant-loop-item l = cannot_start (sequence_of (drop l.item-index l.items)) l.head l.place ≡ cannot_start (sequence_of l.items) l.head l.start
