use Rattle.std.proofs.Common.{Some, rules}
use Rattle.ed_syntax.specs.PublicTypes.{command_value}
use Rattle.ed_rules.proofs.sound.OneTaken.{once-of}
use Rattle.ed_rules.proofs.globals.once_entry.Goals as goal

pub returns-in-Some-clause-sound : goal.returns-in-Some-clause-sound
returns-in-Some-clause-sound c =
    let command = command_value c.args.command.now in
    once-of command c.args.invariant.now (Some c.in_ok-line_entry.field-0) (c.globals_are_sound.ensures.once command c.args.invariant.now) (search rules)
