use Rattle.std.proofs.Common.{rules}
use Rattle.ed_syntax.specs.PublicTypes.{step_value}
use Rattle.ed_rules.proofs.sound.Looping.{end-by}
use Rattle.ed_rules.proofs.globals.loop_end.Goals as goal

pub returns-clause-sound : goal.returns-clause-sound
returns-clause-sound c = end-by (step_value c.args.command.now) c.args.before.now c.args.invariant.now _
    (c.globals_are_sound.ensures.end (step_value c.args.command.now) c.args.before.now c.args.invariant.now) (search rules)
