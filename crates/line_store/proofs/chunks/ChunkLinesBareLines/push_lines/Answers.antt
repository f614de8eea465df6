-- The lines of one more chunk are written, or those of a last one up to the place where they end.
use Rattle.std.proofs.Common.{◌≡◌, ℕ, ◌+◌, ◌-◌, ◌<◌, ◌≤◌, [], ap, subst, arith, length, get_or}
use Rattle.line_store.specs.Chunks.{joined, lines_before}
use Rattle.line_store.proofs.Joined.{before-end, before-later, before-next, before-within}
use Rattle.line_store.proofs.Written.{Written, written-chunk, written-none, written-on}
use Rattle.line_store.proofs.chunks.ChunkLinesBareLines.push_lines.Goals as goal

pub chunks-init : goal.chunks-init
chunks-init c =
    let chunks = c.args.self.now.chunks in
    let s = c.chunk_of-k.ensures.chunk in
    let none = written-none c.args.from (joined chunks) c.args.output.now in
    record {
      low = omega arith;
      high = c.requires.order;
      chunk = omega (arith, s.chunk);
      start = s.low;
      end = omega (arith, s.high, before-next c.chunk_of-k.result chunks s.chunk);
      bytes = none.bytes;
      are = none.are;
    }

pub push_in-requires-clause-order : goal.push_in-requires-clause-order
push_in-requires-clause-order c =
    let i = c.chunks.invariant in
    let chunks = c.args.self.now.chunks in
    let k = c.chunks.k in
    let within : k < length chunks = omega (arith, c.chunks-test.true, ap (λ v. length v.chunks) c.self.view_is) in
    omega (arith, i.end, i.high, i.start, c.start-start.ensures.value, c.lines_in-count.ensures.value, c.min-end.ensures, before-next k chunks within)

pub overflow_add-next : goal.overflow_add-next
overflow_add-next c =
    let chunks = c.args.self.now.chunks in
    let k = c.chunks.k in
    let within : k < length chunks = omega (arith, c.chunks-test.true, ap (λ v. length v.chunks) c.self.view_is) in
    omega (
      arith,
      c.lines_in-count.ensures.value,
      c.start-start.ensures.value,
      before-within k chunks within,
      c.self.invariant.all,
      ap (λ v. length (joined v.chunks)) c.self.view_is,
    )

pub chunks-preserved : goal.chunks-preserved
chunks-preserved c =
    let i = c.chunks.invariant in
    let chunks = c.args.self.now.chunks in
    let k = c.chunks.k in
    let next = c.chunks.next in
    let start = c.start-start.result in
    let count = c.lines_in-count.result in
    let end = c.min-end.result in
    let within : k < length chunks = omega (arith, c.chunks-test.true, ap (λ v. length v.chunks) c.self.view_is) in
    let begins : start ≡ lines_before k chunks = c.start-start.ensures.value in
    let long : count ≡ length (get_or chunks k []) = c.lines_in-count.ensures.value in
    let whole : end ≡ count = omega (arith, c.if-end-count.false, c.min-end.ensures) in
    let reaches : next ≤ start + count = omega (arith, i.end, before-next k chunks within) in
    let before : Written c.args.from next (joined chunks) c.args.output.now c.chunks.output = record { bytes = i.bytes; are = i.are } in
    let part : Written (next - start) end (get_or chunks k []) c.chunks.output c.push_in.new.output =
    record { bytes = c.in_ok-push_in.ensures.appended; are = c.in_ok-push_in.ensures.lines } in
    let more = written-chunk chunks k (next - start) end next (start + count) _ _ within (omega arith) (omega (arith, i.start)) (omega arith) part in
    let all = written-on c.args.from next (start + count) (joined chunks) _ _ _ i.low reaches (omega (arith, i.high, c.requires.last)) before more in
    record {
      low = omega (arith, i.low);
      high = omega (arith, c.min-end.ensures, i.start, i.high);
      chunk = omega arith;
      start = omega (arith, before-next k chunks within);
      end = omega (arith, before-next k chunks within, before-later (k + 1) (k + 1 + 1) chunks (omega arith));
      bytes = all.bytes;
      are = all.are;
    }

pub returns-then-end-count : goal.returns-then-end-count
returns-then-end-count c =
    let i = c.chunks.invariant in
    let chunks = c.args.self.now.chunks in
    let k = c.chunks.k in
    let next = c.chunks.next in
    let to = c.args.to in
    let start = c.start-start.result in
    let end = c.min-end.result in
    let within : k < length chunks = omega (arith, c.chunks-test.true, ap (λ v. length v.chunks) c.self.view_is) in
    let begins : start ≡ lines_before k chunks = c.start-start.ensures.value in
    let long : end ≤ length (get_or chunks k []) = omega (arith, c.lines_in-count.ensures.value, c.min-end.ensures) in
    let last : to ≡ start + end = omega (arith, c.if-end-count.true, c.min-end.ensures, i.start, i.high) in
    let before : Written c.args.from next (joined chunks) c.args.output.now c.chunks.output = record { bytes = i.bytes; are = i.are } in
    let part : Written (next - start) end (get_or chunks k []) c.chunks.output c.push_in.new.output =
    record { bytes = c.in_ok-push_in.ensures.appended; are = c.in_ok-push_in.ensures.lines } in
    let more = written-chunk chunks k (next - start) end next to _ _ within long (omega (arith, i.start)) (omega arith) part in
    let all = written-on c.args.from next to (joined chunks) _ _ _ i.low i.high (omega (arith, i.high, c.requires.last)) before more in
    record { appended = all.bytes; lines = all.are }

pub returns : goal.returns
returns c =
    let i = c.chunks.invariant in
    let chunks = c.args.self.now.chunks in
    let past : length chunks ≤ c.chunks.k = omega (arith, c.chunks-test.false, ap (λ v. length v.chunks) c.self.view_is) in
    let same : c.chunks.next ≡ c.args.to = omega (arith, i.high, i.start, c.requires.last, before-end c.chunks.k chunks past) in
    let all : Written c.args.from c.args.to (joined chunks) c.args.output.now c.chunks.output =
    subst (λ (n : ℕ). Written c.args.from n (joined chunks) c.args.output.now c.chunks.output) same (record { bytes = i.bytes; are = i.are }) in
    record { appended = all.bytes; lines = all.are }
