use Rattle.std.proofs.Common.{◌≡◌, drop}
use Rattle.bre_parse.specs.Tree.{sequence_of}
use Rattle.bre_match.specs.ByteKinds.{tells_apart}
use Rattle.bre_match.proofs.witness.byte_kinds.+tell.Given as goal

abbrev pub invariant-tells_apart-loop-item : goal.invariant-tells_apart-loop-item
invariant-tells_apart-loop-item l =
    tells_apart (sequence_of (drop l.item-index l.items)) l.byte l.other ≡ tells_apart (sequence_of l.items) l.byte l.other
