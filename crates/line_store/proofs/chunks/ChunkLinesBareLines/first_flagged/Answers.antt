-- Where no line of a chunk has the flag, the search goes on with the next one.
use Rattle.std.proofs.Common.{◌≡◌, ℕ, ◌+◌, ◌-◌, ◌<◌, ◌≤◌, [], ap, sym, subst, length, get_or, arith, ⊎_elim}
use Rattle.std.proofs.lemmas.Bool.{cases_lt}
use Rattle.line_store.specs.Chunks.{joined, lines_before}
use Rattle.line_store.specs.Flagged.{FirstFlagged}
use Rattle.line_store.proofs.Joined.{before-next, before-end, before-later, before-most, before-within}
use Rattle.line_store.proofs.Found.{none-in-chunk, first-in-chunk}
use Rattle.line_store.proofs.chunks.ChunkLinesBareLines.first_flagged.Goals as goal

pub chunks-init : goal.chunks-init
chunks-init c =
    let chunks = c.args.self.now.chunks in
    let s = c.chunk_of-k.ensures.chunk in
    record {
      low = omega arith;
      chunk = omega (arith, s.chunk);
      start = s.low;
      end = omega (arith, s.high, before-next c.chunk_of-k.result chunks s.chunk);
      none = λ i h l. absurd (omega arith);
    }

pub flagged_in-place-requires-clause-place : goal.flagged_in-place-requires-clause-place
flagged_in-place-requires-clause-place c =
    let i = c.chunks.invariant in
    let chunks = c.args.self.now.chunks in
    let k = c.chunks.k in
    let within : k < length chunks = omega (arith, c.chunks-test.true, ap (λ v. length v.chunks) c.self.view_is) in
    omega (arith, i.end, c.start-start.ensures.value, before-next k chunks within)

pub overflow_add-result : goal.overflow_add-result
overflow_add-result c =
    let i = c.chunks.invariant in
    let chunks = c.args.self.now.chunks in
    let k = c.chunks.k in
    let within : k < length chunks = omega (arith, c.chunks-test.true, ap (λ v. length v.chunks) c.self.view_is) in
    omega (
      arith,
      c.flagged_in-place.ensures.first.high,
      c.start-start.ensures.value,
      before-within k chunks within,
      c.self.invariant.all,
      ap (λ v. length (joined v.chunks)) c.self.view_is,
    )

pub overflow_add-next : goal.overflow_add-next
overflow_add-next c =
    let i = c.chunks.invariant in
    let chunks = c.args.self.now.chunks in
    let k = c.chunks.k in
    let within : k < length chunks = omega (arith, c.chunks-test.true, ap (λ v. length v.chunks) c.self.view_is) in
    omega (
      arith,
      c.flagged_in-place.ensures.first.high,
      c.start-start.ensures.value,
      before-within k chunks within,
      c.self.invariant.all,
      ap (λ v. length (joined v.chunks)) c.self.view_is,
    )

pub chunks-preserved : goal.chunks-preserved
chunks-preserved c =
    let i = c.chunks.invariant in
    let chunks = c.args.self.now.chunks in
    let k = c.chunks.k in
    let within : k < length chunks = omega (arith, c.chunks-test.true, ap (λ v. length v.chunks) c.self.view_is) in
    let place = c.flagged_in-place.result in
    let f : FirstFlagged (c.chunks.next - lines_before k chunks) place (get_or chunks k []) =
    subst (λ (n : ℕ). FirstFlagged (c.chunks.next - n) place (get_or chunks k [])) c.start-start.ensures.value c.flagged_in-place.ensures.first in
    let next = before-next k chunks within in
    let whole : place ≡ length (get_or chunks k []) = omega (arith, f.high, c.if-place-lines_in.false, c.lines_in.ensures.value) in
    let start : c.start-start.result ≡ lines_before k chunks = c.start-start.ensures.value in
    record {
      low = omega (arith, i.low, i.start, f.low);
      chunk = omega arith;
      start = omega arith;
      end = omega (arith, before-later (k + 1) (k + 1 + 1) chunks (omega arith));
      none = λ m h l. ⊎_elim
          (λ a. i.none m h a)
          (λ a. none-in-chunk k c.chunks.next place m chunks within i.start f a (omega arith))
          (cases_lt m c.chunks.next);
    }

pub returns-then-place-lines_in : goal.returns-then-place-lines_in
returns-then-place-lines_in c =
    let i = c.chunks.invariant in
    let chunks = c.args.self.now.chunks in
    let k = c.chunks.k in
    let within : k < length chunks = omega (arith, c.chunks-test.true, ap (λ v. length v.chunks) c.self.view_is) in
    let place = c.flagged_in-place.result in
    let f : FirstFlagged (c.chunks.next - lines_before k chunks) place (get_or chunks k []) =
    subst (λ (n : ℕ). FirstFlagged (c.chunks.next - n) place (get_or chunks k [])) c.start-start.ensures.value c.flagged_in-place.ensures.first in
    record {
      first = subst (λ (n : ℕ). FirstFlagged c.args.from (n + place) (joined chunks)) (sym c.start-start.ensures.value)
          (first-in-chunk c.args.from c.chunks.next k place chunks within i.low i.start (omega (arith, c.if-place-lines_in.true, c.lines_in.ensures.value)) f i.none);
    }

pub returns : goal.returns
returns c =
    let i = c.chunks.invariant in
    let chunks = c.args.self.now.chunks in
    let past : length chunks ≤ c.chunks.k = omega (arith, c.chunks-test.false, ap (λ v. length v.chunks) c.self.view_is) in
    record {
      first = record {
        low = i.low;
        high = omega (arith, i.end, before-most (c.chunks.k + 1) chunks);
        none = i.none;
        flagged = λ h. absurd (omega (arith, i.start, before-end c.chunks.k chunks past));
      };
    }
