-- The copies have come in, and no line has gone out.
use Rattle.std.proofs.Common.{◌∙◌, ap, arith, length, map}
use Rattle.ed_base.specs.Buffer.{plain_line, texts}
use Rattle.ed_base.specs.Parts.{block, inserted}
use Rattle.ed_commands.proofs.Blocks.{length-exchanged}
use Rattle.ed_commands.proofs.editor.blocks.copy_block.Goals as goal

pub returns-in-Ok-clause-copied : goal.returns-in-Ok-clause-copied
returns-in-Ok-clause-copied g c =
    let same = c.in_ok-open.ensures.unchanged in
    c.in-Ok.ensures.put
    ∙ ap (inserted c.args.target (map plain_line c.in_ok-copies.copies)) same
    ∙ ap (λ t. inserted c.args.target (map plain_line t) (g.S.LineStore.lines c.args.store.now))
    (c.in_ok-copies.ensures.value ∙ ap (λ t. texts (block c.args.from c.args.to t)) same)

pub returns-in-Ok-clause-no_fewer : goal.returns-in-Ok-clause-no_fewer
returns-in-Ok-clause-no_fewer g c =
    let same = c.in_ok-open.ensures.unchanged in
    omega (
      arith,
      ap length c.in-Ok.ensures.put,
      ap length same,
      length-exchanged c.args.target c.args.target (map plain_line c.in_ok-copies.copies) (g.S.LineStore.lines c.open.new.self) (omega arith)
          (omega (arith, c.requires.target, ap length same)),
    )
