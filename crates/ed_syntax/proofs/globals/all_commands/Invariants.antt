-- The commands so far, before those of the lines that are left, are all of them.
use Rattle.std.proofs.Common.{◌≡◌, length, map}
use Rattle.ed_syntax.specs.reading.ReadGlobals.{commands, all_commands}
use Rattle.ed_syntax.specs.PublicTypes.{command_value}
use Rattle.ed_syntax.proofs.reader.ListSteps.{before_commands}
use Rattle.ed_syntax.proofs.globals.all_commands.Given as goal

abbrev pub invariant-commands : goal.invariant-commands
invariant-commands l = before_commands (map command_value l.commands.items) (commands (length l.lines.lines) l.lines.lines) ≡ all_commands l.list

abbrev pub decreases-commands : goal.decreases-commands
decreases-commands l = length l.lines.lines
