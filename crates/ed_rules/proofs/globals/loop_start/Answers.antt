use Rattle.ed_syntax.specs.PublicTypes.{command_value}
use Rattle.ed_rules.proofs.sound.Looping.{start-by}
use Rattle.ed_rules.proofs.globals.loop_start.Goals as goal

pub returns-clause-sound : goal.returns-clause-sound
returns-clause-sound c =
    start-by c.globals_are_sound.ensures.start _ (command_value c.args.command.now) c.args.state.now c.after.result c.after.ensures.exact
