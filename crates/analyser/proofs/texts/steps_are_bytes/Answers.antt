use Rattle.std.proofs.Common.{arith}
use Rattle.std.proofs.lemmas.List.Elements.{All-map}
use Rattle.ed_syntax.specs.PublicTypes.{step_value}
use Rattle.cert_check.proofs.texts.Limited.{all-more, all-end}
use Rattle.analyser.specs.Walking.{StepIsBytes}
use Rattle.analyser.proofs.texts.steps_are_bytes.Goals as goal

pub loop-command-preserved : goal.loop-command-preserved
loop-command-preserved c =
    all-more (λ d. StepIsBytes (step_value d)) c.args.commands.now c.loop-command.command-index c.command-item.result (omega arith) c.command-item.is c.loop-command.invariant c.step_is_bytes.ensures.bytes

pub returns : goal.returns
returns c = record { bytes = All-map StepIsBytes step_value c.args.commands.now (all-end (λ d. StepIsBytes (step_value d)) c.args.commands.now c.loop-command.command-index (omega arith) c.loop-command.invariant) }
