-- A chunk begins where the one before it ends.
use Rattle.std.proofs.Common.{◌≡◌, ◌<◌, ◌∙◌, [], ap, sym, length, get_or, arith, ⊎_elim}
use Rattle.std.proofs.lemmas.List.{get_or_default}
use Rattle.std.proofs.lemmas.Bool.{cases_lt}
use Rattle.line_store.specs.Chunks.{lines_before}
use Rattle.line_store.proofs.Joined.{before-next, before-within, before-later}
use Rattle.line_store.proofs.chunk_starts.ChunkStarts.count.Goals as goal

pub push-requires-clause-order : goal.push-requires-clause-order
push-requires-clause-order c = λ m h.
    let i = c.loop-k.invariant in
    let k = c.loop-k.k in
    omega (arith, i.start, i.starts m (omega (arith, i.long)), before-later m k c.args.chunks.now.items (omega (arith, i.long)))

pub overflow_add-before : goal.overflow_add-before
overflow_add-before c =
    let chunks = c.args.chunks.now.items in
    let k = c.loop-k.k in
    let within : k < length chunks = omega arith in
    let read : c.index.result.now ≡ get_or chunks k [] = c.index.ensures ∙ get_or_default chunks k c.index.result.now [] within in
    omega (arith, c.loop-k.invariant.start, before-within k chunks within, ap length read)

pub loop-k-preserved : goal.loop-k-preserved
loop-k-preserved c =
    let i = c.loop-k.invariant in
    let chunks = c.args.chunks.now.items in
    let starts = c.loop-k.self.starts in
    let k = c.loop-k.k in
    let within : k < length chunks = omega arith in
    let read : c.index.result.now ≡ get_or chunks k [] = c.index.ensures ∙ get_or_default chunks k c.index.result.now [] within in
    record {
      long = omega (arith, i.long, c.push.ensures.length);
      room = c.push.ensures.room ∙ i.room;
      start = omega (arith, i.start, before-next k chunks within, ap length read);
      starts = λ m h. ⊎_elim
          (λ l. c.push.ensures.earlier m (omega (arith, i.long)) ∙ i.starts m l)
          (λ l.
          let e : m ≡ length starts = omega (arith, i.long) in
          let f : m ≡ k = omega arith in
          ap (λ n. get_or c.push.new.self.starts n 0) e ∙ c.push.ensures.last ∙ i.start ∙ ap (λ n. lines_before n chunks) (sym f))
          (cases_lt m k);
    }
