use Rattle.std.proofs.Common.{◌≡◌, drop, map}
use Rattle.std.specs.List.{list_all}
use Rattle.ed_syntax.specs.PublicTypes.{step_value}
use Rattle.hints.specs.Like.{takes_none_by_text}
use Rattle.hints.proofs.like.take_none_by_text.Given as goal

abbrev pub invariant-loop-command : goal.invariant-loop-command
invariant-loop-command l = list_all takes_none_by_text (map step_value l.commands) ≡ list_all takes_none_by_text (map step_value (drop l.command-index l.commands))
