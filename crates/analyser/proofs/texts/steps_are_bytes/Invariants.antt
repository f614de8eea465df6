use Rattle.std.proofs.Common.{take}
use Rattle.std.specs.List.{All}
use Rattle.ed_syntax.specs.PublicTypes.{step_value}
use Rattle.analyser.specs.Walking.{StepIsBytes}
use Rattle.analyser.proofs.texts.steps_are_bytes.Given as goal

abbrev pub invariant-loop-command : goal.invariant-loop-command
invariant-loop-command l = All (λ c. StepIsBytes (step_value c)) (take l.command-index l.commands)
