-- A chunk more, and at the end all of them.
use Rattle.std.proofs.Common.{◌≡◌, ◌+◌, ◌++◌, ◌∙◌, ap, sym, arith, length, map}
use Rattle.std.proofs.lemmas.List.{length-map, map-append}
use Rattle.ed_base.specs.Buffer.{Line, plain_line, texts}
use Rattle.ed_base.specs.Parts.{block}
use Rattle.line_store.specs.Chunks.{joined}
use Rattle.line_store.specs.Cut.{all_lines}
use Rattle.line_store.specs.Kept.{flag_count}
use Rattle.line_store.proofs.Filled.{joined-more}
use Rattle.line_store.proofs.Ranges.{block-none, length-block}
use Rattle.line_store.proofs.Taken.{plain-bare, texts-plain}
use Rattle.line_store.proofs.Written.{block-joined}
use Rattle.line_store.proofs.cut_lines.CutLines.copy_chunks.Goals as goal

pub chunks-init : goal.chunks-init
chunks-init g c = record {
  low = omega arith;
  high = c.requires.order;
  copied = ap joined c.new-chunks.ensures.items ∙ sym (ap (λ t. map plain_line (texts t)) (block-none c.args.from (all_lines c.args.self.now)));
}

pub chunks-preserved : goal.chunks-preserved
chunks-preserved g c =
    let i = c.chunks.invariant in
    let lines = all_lines c.args.self.now in
    let from = c.args.from in
    let next = c.chunks.next in
    let end = next + c.min.result in
    let before = block from next lines in
    let more = block next end lines in
    let is = block-joined from next end lines i.low (omega arith) (omega (arith, i.high, c.requires.last)) in
    record {
      low = omega (arith, i.low);
      high = omega (arith, c.min.ensures);
      copied = joined-more c.chunks.chunks.items c.push.new.self.items c.in_ok-chunk.chunk c.in_ok-push.ensures.items
          ∙ ap (λ t. t ++ c.in_ok-chunk.chunk) i.copied
          ∙ ap (λ t. map plain_line (texts before) ++ t) c.in_ok-chunk.ensures.value
          ∙ sym (ap (λ t. map plain_line (texts t)) is ∙ ap (map plain_line) (map-append (λ (l : Line). l.bytes) before more)
          ∙ map-append plain_line (texts before) (texts more));
    }

pub of_chunks-requires-clause-count : goal.of_chunks-requires-clause-count
of_chunks-requires-clause-count g c =
    let i = c.chunks.invariant in
    let lines = all_lines c.args.self.now in
    let all = block c.args.from c.chunks.next lines in
    omega (
      arith,
      i.low,
      i.high,
      ap length i.copied,
      length-map (texts all) plain_line,
      length-map all (λ (l : Line). l.bytes),
      length-block c.args.from c.chunks.next lines (omega (arith, i.high, c.requires.last)),
    )

pub of_chunks-requires-clause-unflagged : goal.of_chunks-requires-clause-unflagged
of_chunks-requires-clause-unflagged g c =
    ap flag_count c.chunks.invariant.copied ∙ plain-bare (texts (block c.args.from c.chunks.next (all_lines c.args.self.now)))

pub returns : goal.returns
returns g c =
    let i = c.chunks.invariant in
    let lines = all_lines c.args.self.now in
    let same : c.chunks.next ≡ c.args.to = omega (arith, i.high) in
    record {
      value = c.of_chunks.ensures.value
          ∙ ap texts i.copied
          ∙ texts-plain (texts (block c.args.from c.chunks.next lines))
          ∙ ap (λ n. texts (block c.args.from n lines)) same;
    }
