-- The parts that were passed are the same.
use Rattle.std.proofs.Common.{◌≡◌, take}
use Rattle.ed_commands.proofs.editor.substituting.have_same_parts.Given as goal

abbrev pub invariant-loop-i : goal.invariant-loop-i
invariant-loop-i l = take l.i l.parts ≡ take l.i l.others
