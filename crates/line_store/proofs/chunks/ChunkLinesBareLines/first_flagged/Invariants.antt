-- No line that was passed has the flag, and what is next is in the chunk or at an end of it.
use Rattle.std.proofs.Common.{◌≡◌, ℕ, ◌+◌, ◌-◌, ◌<◌, ◌≤◌, [], false, length, get_or}
use Rattle.ed_base.specs.Buffer.{plain_line}
use Rattle.line_store.specs.Chunks.{joined, lines_before}
use Rattle.line_store.proofs.chunks.ChunkLinesBareLines.first_flagged.Given as goal

abbrev pub invariant-chunks : goal.invariant-chunks
invariant-chunks l =
    let chunks = l.self.chunks in
    record {
      low : l.from ≤ l.next;
      chunk : l.k ≤ length chunks;
      start : lines_before l.k chunks ≤ l.next;
      end : l.next ≤ lines_before (l.k + 1) chunks;
      none : (i : ℕ) → l.from ≤ i → i < l.next → (get_or (joined chunks) i (plain_line [])).flag ≡ false;
    }

abbrev pub decreases-chunks : goal.decreases-chunks
decreases-chunks l = length l.self.chunks - l.k
