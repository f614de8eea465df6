-- The lines that were passed have been copied, and there is room for a whole chunk.
use Rattle.std.proofs.Common.{◌≡◌, ◌≤◌, take, deque_capacity}
use Rattle.line_store.specs.Chunks.{full}
use Rattle.line_store.proofs.chunk.Chunk.try_copy.Given as goal

abbrev pub invariant-loop-i : goal.invariant-loop-i
invariant-loop-i l = record { copied : l.ring.items ≡ take l.i l.self-inside.ring.items; room : full ≤ deque_capacity l.ring }
