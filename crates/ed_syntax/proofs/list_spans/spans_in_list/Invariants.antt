-- What is left of the global command isn't longer than the command.
use Rattle.std.proofs.Common.{◌≤◌, length}
use Rattle.ed_syntax.proofs.list_spans.spans_in_list.Given as goal

abbrev pub invariant-commands : goal.invariant-commands
invariant-commands l = length l.left ≤ length l.command

abbrev pub decreases-commands : goal.decreases-commands
decreases-commands l = length l.lines.lines
