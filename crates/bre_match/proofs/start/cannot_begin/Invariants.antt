use Rattle.std.proofs.Common.{◌≡◌, drop}
use Rattle.bre_parse.specs.Tree.{sequence_of}
use Rattle.bre_match.specs.Starts.{cannot_begin}
use Rattle.bre_match.proofs.start.cannot_begin.Given as goal

abbrev pub invariant-loop-item : goal.invariant-loop-item
invariant-loop-item l = cannot_begin (sequence_of (drop l.item-index l.items)) l.text l.start ≡ cannot_begin (sequence_of l.items) l.text l.start
