use Rattle.std.proofs.Common.{◌≡◌, drop}
use Rattle.bre_parse.specs.Tree.{sequence_of}
use Rattle.bre_match.specs.Narrowing.{bytes_to_end}
use Rattle.bre_match.proofs.narrow.bytes_to_end.Given as goal

abbrev pub invariant-loop-item : goal.invariant-loop-item
invariant-loop-item l = bytes_to_end l.run.closes l.run.groups l.text (sequence_of (drop l.item-index l.items)) l.bytes ≡ bytes_to_end l.run.closes l.run.groups l.text (sequence_of l.items) 0
