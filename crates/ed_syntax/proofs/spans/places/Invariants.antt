-- What is left of the script isn't longer than the script.
use Rattle.std.proofs.Common.{◌≤◌, length}
use Rattle.ed_syntax.proofs.spans.places.Given as goal

abbrev pub invariant-commands : goal.invariant-commands
invariant-commands l = length l.left ≤ length l.script

abbrev pub decreases-commands : goal.decreases-commands
decreases-commands l = length l.lines.lines
