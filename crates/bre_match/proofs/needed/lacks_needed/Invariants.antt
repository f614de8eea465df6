use Rattle.std.proofs.Common.{◌≡◌, drop}
use Rattle.bre_parse.specs.Tree.{sequence_of}
use Rattle.bre_match.specs.Needs.{lacks_needed}
use Rattle.bre_match.proofs.needed.lacks_needed.Given as goal

abbrev pub invariant-loop-item : goal.invariant-loop-item
invariant-loop-item l = lacks_needed (sequence_of (drop l.item-index l.items)) l.text l.at ≡ lacks_needed (sequence_of l.items) l.text l.from
