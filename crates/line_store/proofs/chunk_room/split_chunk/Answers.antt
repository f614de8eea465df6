-- The lines of a chunk are those of its two parts.
use Rattle.std.proofs.Common.{◌≡◌, ◌+◌, ◌<◌, ◌∙◌, [], ◌++◌, ap, length, length-append, get_or, set, insert, arith}
use Rattle.std.proofs.lemmas.List.{get_or_default}
use Rattle.line_store.specs.Chunks.{joined, lines_before}
use Rattle.line_store.proofs.Joined.{joined-split, lower-split, upper-split, before-split, length-split}
use Rattle.line_store.proofs.chunk_room.split_chunk.Goals as goal

pub returns-clause-split : goal.returns-clause-split
returns-clause-split c =
    let k = c.args.k in
    let s = c.in_ok-upper.ensures in
    let chunks = c.spare_chunk.new.chunks.items in
    let lower = c.give.new.self in
    let upper = c.give.new.other in
    let new = c.insert.new.self.items in
    let within : k < length chunks = s.chunk in
    let pieces : lower ++ upper ≡ get_or chunks k [] =
    c.give.ensures.same ∙ c.index_mut.ensures.value ∙ get_or_default chunks k c.index_mut.result.now [] within in
    let is : new ≡ insert (set chunks k lower) (k + 1) upper = c.in-Ok.ensures.items in
    let long = length-split chunks k lower upper within in
    record {
      same = ap joined is ∙ joined-split chunks k lower upper within pieces ∙ s.joined;
      no_fewer = omega (arith, ap length is, s.no_fewer);
      chunk = omega (arith, ap length is);
      before = ap (λ t. lines_before k t) is ∙ before-split chunks k lower upper within ∙ s.before;
      lower = ap (λ t. length (get_or t k [])) is ∙ ap length (lower-split chunks k lower upper within) ∙ c.give.ensures.kept;
      upper = omega (arith, ap (λ t. length (get_or t (k + 1) [])) is, ap length (upper-split chunks k lower upper within), ap length pieces, length-append lower upper, c.give.ensures.kept, ap length s.same);
    }
