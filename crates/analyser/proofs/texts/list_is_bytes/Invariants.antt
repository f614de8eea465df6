use Rattle.std.proofs.Common.{take}
use Rattle.std.specs.List.{All}
use Rattle.ed_syntax.specs.PublicTypes.{command_value}
use Rattle.ed_rules.specs.Formed.{TextsAreBytes}
use Rattle.analyser.proofs.texts.list_is_bytes.Given as goal

abbrev pub invariant-loop-command : goal.invariant-loop-command
invariant-loop-command l = All (λ c. TextsAreBytes (command_value c)) (take l.command-index l.list)
