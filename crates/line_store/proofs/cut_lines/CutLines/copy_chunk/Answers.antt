-- One line more, for which a chunk has room.
use Rattle.std.proofs.Common.{◌∷◌, ◌++◌, ◌∙◌, [], ap, sym, arith, length, map, get_or}
use Rattle.std.proofs.lemmas.List.{length-map, map-append}
use Rattle.ed_base.specs.Buffer.{Line, plain_line, texts}
use Rattle.ed_base.specs.Parts.{block}
use Rattle.line_store.specs.Cut.{all_lines}
use Rattle.line_store.proofs.Ranges.{block-more, block-none, length-block}
use Rattle.line_store.proofs.cut_lines.CutLines.copy_chunk.Goals as goal

pub loop-i-init : goal.loop-i-init
loop-i-init g c =
    c.in_ok-chunk.ensures.value ∙ sym (ap (λ t. map plain_line (texts t)) (block-none c.args.from (all_lines c.args.self.now)))

pub push-requires : goal.push-requires
push-requires g c =
    let copied = block c.args.from c.loop-i.i (all_lines c.args.self.now) in
    omega (
      arith,
      c.requires.fits,
      c.requires.last,
      ap length c.loop-i.invariant,
      length-map (texts copied) plain_line,
      length-map copied (λ (l : Line). l.bytes),
      length-block c.args.from c.loop-i.i (all_lines c.args.self.now) (omega (arith, c.requires.last)),
    )

pub loop-i-preserved : goal.loop-i-preserved
loop-i-preserved g c =
    let lines = all_lines c.args.self.now in
    let from = c.args.from in
    let i = c.loop-i.i in
    let line = get_or lines i (plain_line []) in
    let copied = block from i lines in
    c.push.ensures.pushed
    ∙ ap (λ t. t ++ c.in_ok-plain_copy.field-0 ∷ []) c.loop-i.invariant
    ∙ ap (λ l. map plain_line (texts copied) ++ l ∷ []) c.in_ok-plain_copy.ensures.value
    ∙ sym (ap (λ t. map plain_line (texts t)) (block-more from i lines (plain_line []) (omega arith) (omega (arith, c.requires.last)))
    ∙ ap (map plain_line) (map-append (λ (l : Line). l.bytes) copied (line ∷ []))
    ∙ map-append plain_line (texts copied) (line.bytes ∷ []))
