use Rattle.ed_syntax.specs.PublicTypes.{command_value}
use Rattle.ed_rules.proofs.rules.after.Goals as goal

pub returns-in-Ok-clause-sound : goal.returns-in-Ok-clause-sound
returns-in-Ok-clause-sound c e given st =
    c.commands_are_sound.ensures.sound c.args.watch.now
    (command_value c.args.command.now) c.args.state.now c.step_from.new.self e given st c.in-Ok.ensures.exact
