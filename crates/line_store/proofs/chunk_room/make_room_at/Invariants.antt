-- The chunk that was reached has room, and the place isn't before it.
use Rattle.std.proofs.Common.{◌≡◌, ◌-◌, ◌<◌, ◌≤◌, [], length, get_or}
use Rattle.line_store.specs.Chunks.{full, joined, lines_before}
use Rattle.line_store.proofs.chunk_room.make_room_at.Given as goal

abbrev pub invariant-draws : goal.invariant-draws
invariant-draws l =
    let now = l.chunks.items in
    let before = l.fn.chunks.items in
    record {
      same : joined now ≡ joined before;
      long : length now ≡ length before;
      within : l.k < length now;
      start : l.before ≡ lines_before l.k now;
      low : l.before ≤ l.at;
      room : length (get_or now l.k []) < full;
    }

abbrev pub decreases-draws : goal.decreases-draws
decreases-draws l = length l.chunks.items - l.k
