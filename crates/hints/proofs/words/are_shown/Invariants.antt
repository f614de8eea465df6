use Rattle.std.proofs.Common.{◌≡◌}
use Rattle.std.specs.List.{list_all}
use Rattle.hints.specs.Sought.{is_shown}
use Rattle.hints.proofs.words.are_shown.Given as goal

abbrev pub invariant-loop-character : goal.invariant-loop-character
invariant-loop-character l = l.shown ≡ list_all is_shown l.yielded
