-- The lines of the file have come in, and no line has gone out.
use Rattle.std.proofs.Common.{◌∙◌, ap, arith, length, map}
use Rattle.ed_base.specs.Buffer.{plain_line}
use Rattle.ed_base.specs.Parts.{inserted}
use Rattle.ed_commands.proofs.Blocks.{length-exchanged}
use Rattle.ed_commands.proofs.editor.lines.put_file.Goals as goal

pub returns-in-Ok-clause-put : goal.returns-in-Ok-clause-put
returns-in-Ok-clause-put g c =
    c.in-Ok.ensures.put
    ∙ ap (λ t. inserted c.args.place (map plain_line t) (g.S.LineStore.lines c.args.store.now)) c.in_ok-new.ensures.value

pub returns-in-Ok-clause-no_fewer : goal.returns-in-Ok-clause-no_fewer
returns-in-Ok-clause-no_fewer g c =
    omega (
      arith,
      ap length c.in-Ok.ensures.put,
      length-exchanged c.args.place c.args.place (map plain_line c.in_ok-new.new) (g.S.LineStore.lines c.args.store.now) (omega arith) c.requires.place,
    )

pub returns-in-Err-clause-no_fewer : goal.returns-in-Err-clause-no_fewer
returns-in-Err-clause-no_fewer g c = omega (arith, ap length c.in-Err.ensures.unchanged)
