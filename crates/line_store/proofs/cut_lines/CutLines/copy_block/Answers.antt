-- One line more.
use Rattle.std.proofs.Common.{◌∷◌, ◌++◌, ◌∙◌, [], ap, sym, arith, get_or}
use Rattle.std.proofs.lemmas.List.{map-append}
use Rattle.ed_base.specs.Buffer.{Line, plain_line, texts}
use Rattle.ed_base.specs.Parts.{block}
use Rattle.line_store.specs.Cut.{all_lines}
use Rattle.line_store.proofs.Ranges.{block-more, block-none}
use Rattle.line_store.proofs.cut_lines.CutLines.copy_block.Goals as goal

pub loop-i-init : goal.loop-i-init
loop-i-init g c = ap texts (c.in_ok-copies.ensures.items ∙ sym (block-none c.args.from (all_lines c.args.self.now)))

pub loop-i-preserved : goal.loop-i-preserved
loop-i-preserved g c =
    let lines = all_lines c.args.self.now in
    let from = c.args.from in
    let i = c.loop-i.i in
    let line = get_or lines i (plain_line []) in
    ap texts c.in_ok-push.ensures.items
    ∙ map-append (λ (l : Line). l.bytes) c.loop-i.copies.items (c.in_ok-plain_copy-2.field-0 ∷ [])
    ∙ ap (λ t. t ++ c.in_ok-plain_copy-2.field-0.bytes ∷ []) c.loop-i.invariant
    ∙ ap (λ (l : Line). texts (block from i lines) ++ l.bytes ∷ []) c.in_ok-plain_copy-2.ensures.value
    ∙ sym (ap texts (block-more from i lines (plain_line []) (omega arith) (omega arith)) ∙ map-append (λ (l : Line). l.bytes) (block from i lines) (line ∷ []))
