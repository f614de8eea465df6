-- One more line.
use Rattle.std.proofs.Common.{ap, arith, length}
use Rattle.std.specs.List.{concat}
use Rattle.std.proofs.lemmas.List.{length-append}
use Rattle.ed_base.specs.Buffer.{texts}
use Rattle.ed_base.specs.Parts.{block}
use Rattle.ed_commands.proofs.Blocks.{block-none, joined-more}
use Rattle.ed_commands.proofs.editor.blocks.text_size.Goals as goal

pub loop-i-init : goal.loop-i-init
loop-i-init g c = omega (arith, ap (λ t. length (concat (texts t))) (block-none c.args.from (g.S.LineStore.lines c.args.store.now)))

pub loop-i-preserved : goal.loop-i-preserved
loop-i-preserved g c =
    let lines = g.S.LineStore.lines c.args.store.now in
    let so_far = concat (texts (block c.args.from c.loop-i.i lines)) in
    omega (
      arith,
      ap length (joined-more c.args.from c.loop-i.i lines c.text.result.now (omega arith) (omega arith) c.text.ensures.value),
      length-append so_far c.text.result.now,
      c.loop-i.invariant,
      c.saturating_add-size.ensures,
    )
