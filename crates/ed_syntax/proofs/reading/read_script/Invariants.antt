-- The steps so far, before the script of the lines that are left, are the whole script.
use Rattle.std.proofs.Common.{◌≡◌, ◌+◌, length}
use Rattle.ed_syntax.specs.reading.Reading.{script, script_of}
use Rattle.ed_syntax.specs.PublicTypes.{steps_value}
use Rattle.ed_syntax.proofs.reader.ScriptLemmas.{all_before}
use Rattle.ed_syntax.proofs.reading.read_script.Given as goal

abbrev pub invariant-commands : goal.invariant-commands
invariant-commands l = all_before (steps_value l.commands.items) (script (length l.lines.lines) (l.lines.number + 1) l.lines.lines) ≡ script_of l.bytes

abbrev pub decreases-commands : goal.decreases-commands
decreases-commands l = length l.lines.lines
