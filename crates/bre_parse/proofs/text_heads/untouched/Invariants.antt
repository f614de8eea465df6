use Rattle.std.proofs.Common.{◌≡◌, ◌++◌, drop, take}
use Rattle.bre_parse.specs.Tree.{sequence_of}
use Rattle.bre_parse.specs.TextHeads.{untouched, untouched_from}
use Rattle.bre_parse.proofs.text_heads.untouched.Given as goal

abbrev pub invariant-loop-place : goal.invariant-loop-place
invariant-loop-place l =
    take l.place l.head ++ untouched_from (sequence_of l.items) l.head (drop l.place l.head) l.place ≡ untouched (sequence_of l.items) l.head
