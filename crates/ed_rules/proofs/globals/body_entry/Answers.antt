use Rattle.std.proofs.Common.{rules}
use Rattle.ed_syntax.specs.PublicTypes.{command_value}
use Rattle.ed_rules.proofs.sound.Looping.{turn-by}
use Rattle.ed_rules.proofs.globals.body_entry.Goals as goal

pub returns-clause-sound : goal.returns-clause-sound
returns-clause-sound c =
    let verb = (command_value c.args.command.now).verb in
    turn-by verb c.args.invariant.now _ (c.globals_are_sound.ensures.turn verb c.args.invariant.now) (search rules)
