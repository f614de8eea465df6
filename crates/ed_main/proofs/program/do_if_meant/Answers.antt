use Rattle.std.proofs.Common.{refl, sym, ◌∙◌}
use Rattle.ed_main.specs.Program as meaning
use Rattle.ed_main.proofs.program.do_if_meant.Goals as goal

pub returns-then-is_mistaken-clause-did : goal.returns-then-is_mistaken-clause-did
returns-then-is_mistaken-clause-did g c =
    meaning.mistaken (c.is_mistaken.ensures.empty c.if-is_mistaken.true) (c.is_mistaken.ensures.sound c.if-is_mistaken.true) refl

pub returns-then-is_mistaken-clause-ending : goal.returns-then-is_mistaken-clause-ending
returns-then-is_mistaken-clause-ending g c =
    meaning.did c.args.script.now c.args.job c.requires.given
    (meaning.mistaken (c.is_mistaken.ensures.empty c.if-is_mistaken.true) (c.is_mistaken.ensures.sound c.if-is_mistaken.true) refl)

pub returns-clause-did : goal.returns-clause-did
returns-clause-did g c = meaning.meant (c.is_mistaken.ensures.named c.if-is_mistaken.false) c.do_job.ensures.did

pub returns-clause-ending : goal.returns-clause-ending
returns-clause-ending g c =
    meaning.did c.args.script.now c.args.job c.requires.given
    (meaning.meant (c.is_mistaken.ensures.named c.if-is_mistaken.false) c.do_job.ensures.did)
