use Rattle.std.proofs.Common.{map, drop}
use Rattle.ed_syntax.specs.PublicTypes.{command_value}
use Rattle.analyser.proofs.Rounding.{Passing}
use Rattle.analyser.proofs.rounds.go_round.Given as goal

-- the commands before this one leave what comes in here, and their needs hold
abbrev pub invariant-loop-command : goal.invariant-loop-command
invariant-loop-command l = Passing l.sight (map command_value l.list) l.fn.coming.value l.inner.items l.coming.value (map command_value (drop l.command-index l.list))
