use Rattle.std.proofs.Common.{◌≡◌, drop}
use Rattle.bre_parse.specs.Tree.{sequence_of}
use Rattle.bre_match.specs.ByteKinds.{reaches_top}
use Rattle.bre_match.proofs.witness.byte_kinds.+reach.Given as goal

abbrev pub invariant-reaches_top-loop-item : goal.invariant-reaches_top-loop-item
invariant-reaches_top-loop-item l = reaches_top (sequence_of (drop l.item-index l.items)) ≡ reaches_top (sequence_of l.items)
