use Rattle.std.proofs.Common.{◌≡◌, drop, map}
use Rattle.std.specs.List.{list_any}
use Rattle.ed_syntax.specs.PublicTypes.{step_value}
use Rattle.hints.specs.Like.{takes_by_number}
use Rattle.hints.proofs.like.take_by_number.Given as goal

abbrev pub invariant-loop-command : goal.invariant-loop-command
invariant-loop-command l = list_any (takes_by_number l.least) (map step_value l.commands) ≡ list_any (takes_by_number l.least) (map step_value (drop l.command-index l.commands))
