use Rattle.std.proofs.Common.{◌++◌, drop, ℕ, List}
use Rattle.ed_calls.specs.Explaining.{Woven}
use Rattle.ed_calls.proofs.explaining.lines.weave.Given as goal

-- with the lines of the commands that are left, the text has the lines of all
abbrev pub invariant-loop-command : goal.invariant-loop-command
invariant-loop-command l = (rest : List ℕ) → Woven (drop l.command-index l.commands) rest → Woven l.commands (l.text ++ rest)
