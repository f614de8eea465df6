use Rattle.std.proofs.Common.{◌≡◌, ◌++◌, take, drop, map}
use Rattle.ed_syntax.specs.PublicTypes.{step_value}
use Rattle.remarks.specs.Steps.{before_end}
use Rattle.remarks.proofs.unwritten.before_end.Given as goal

abbrev pub invariant-loop-index : goal.invariant-loop-index
invariant-loop-index l = before_end (map step_value l.commands) ≡ map step_value (take l.index l.commands) ++ before_end (map step_value (drop l.index l.commands))
