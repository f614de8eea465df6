use Rattle.std.proofs.Common.{◌≡◌, ◌++◌, drop}
use Rattle.std.specs.Prelude.{option_map}
use Rattle.bre_parse.specs.Tree.{sequence_of}
use Rattle.bre_parse.specs.Literal.{literal}
use Rattle.bre_parse.proofs.literal.literal.Given as goal

abbrev pub invariant-loop-item : goal.invariant-loop-item
invariant-loop-item l = option_map (λ rest. l.word.items ++ rest) (literal (sequence_of (drop l.item-index l.items))) ≡ literal (sequence_of l.items)
