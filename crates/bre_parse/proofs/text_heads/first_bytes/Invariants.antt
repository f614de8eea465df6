use Rattle.std.proofs.Common.{◌≡◌, ◌++◌, drop}
use Rattle.bre_parse.specs.Tree.{sequence_of}
use Rattle.bre_parse.specs.TextHeads.{first_bytes}
use Rattle.bre_parse.proofs.text_heads.first_bytes.Given as goal

abbrev pub invariant-loop-item : goal.invariant-loop-item
invariant-loop-item l = l.bytes.items ++ first_bytes (sequence_of (drop l.item-index l.items)) ≡ first_bytes (sequence_of l.items)
