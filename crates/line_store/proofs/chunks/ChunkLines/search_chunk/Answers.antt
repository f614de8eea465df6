-- The line stands before the end of all chunks.
use Rattle.std.proofs.Common.{◌≡◌, ◌+◌, ◌<◌, ap, length, arith}
use Rattle.line_store.specs.Chunks.{lines_before}
use Rattle.line_store.proofs.Joined.{before-next, before-end, some-chunk}
use Rattle.line_store.proofs.chunks.ChunkLines.search_chunk.Goals as goal

pub halves-init : goal.halves-init
halves-init c =
    let chunks = c.args.self.now.chunks in
    let count = c.len-high.result in
    let long : count ≡ length chunks = omega (arith, ap (λ v. length v.chunks) c.self.view_is) in
    record {
      low = omega arith;
      high = omega (arith, c.requires.place, before-end count chunks (omega arith));
      within = omega arith;
      order = omega (arith, some-chunk c.args.i chunks c.requires.place);
    }

pub returns : goal.returns
returns c =
    let i = c.halves.invariant in
    let chunks = c.args.self.now.chunks in
    let low = c.halves.low in
    let next : c.halves.high ≡ low + 1 = omega (arith, i.order) in
    let within : low < length chunks = omega (arith, i.within) in
    record {
      chunk = record {
        chunk = within;
        low = i.low;
        high = omega (arith, i.high, before-next low chunks within, ap (λ n. lines_before n chunks) next);
      };
    }
