-- The lines that were passed have been copied.
use Rattle.std.proofs.Common.{◌≡◌, take}
use Rattle.line_store.proofs.gap.GapLinesBareLines.try_copy.Given as goal

abbrev pub invariant-loop-place : goal.invariant-loop-place
invariant-loop-place l = l.ring.items ≡ take l.place l.self-inside.ring.items
