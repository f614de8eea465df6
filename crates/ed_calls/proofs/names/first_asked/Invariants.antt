use Rattle.std.proofs.Common.{◌≡◌, ◌+◌, drop, map}
use Rattle.ed_syntax.specs.PublicTypes.{step_value}
use Rattle.cert_check.specs.checker.Valid.{counted}
use Rattle.ed_calls.specs.Names.{first_from, is_unusable}
use Rattle.ed_calls.proofs.names.first_asked.Given as goal

-- the commands that were looked at ask for no such file, nor do they end the run, and the number is the next one's
abbrev pub invariant-loop-command : goal.invariant-loop-command
invariant-loop-command l =
    (l.number ≡ l.command-index + 1)
    × (first_from 1 (is_unusable l.path) (counted (map step_value l.script.commands.items))
    ≡ first_from (l.command-index + 1) l.remembered (counted (map step_value (drop l.command-index l.script.commands.items))))
