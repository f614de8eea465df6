-- The chunk that was passed last has room, or one before it has.
use Rattle.std.proofs.Common.{◌≡◌, ◌*◌, ◌<◌, ◌≤◌, [], length, get_or}
use Rattle.line_store.specs.Chunks.{full, joined, lines_before}
use Rattle.line_store.proofs.chunk_room.make_room_first.Given as goal

abbrev pub invariant-passes : goal.invariant-passes
invariant-passes l =
    let now = l.chunks.items in
    let before = l.fn.chunks.items in
    record {
      same : joined now ≡ joined before;
      long : length now ≡ length before;
      within : l.k < length now;
      room : full ≤ length (get_or now l.k []) → lines_before l.k now < full * l.k;
    }

abbrev pub decreases-passes : goal.decreases-passes
decreases-passes l = l.k
