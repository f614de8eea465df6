use Rattle.std.proofs.Common.{arith}
use Rattle.std.proofs.lemmas.List.Elements.{All-map}
use Rattle.ed_syntax.specs.PublicTypes.{command_value}
use Rattle.ed_rules.specs.Formed.{TextsAreBytes}
use Rattle.cert_check.proofs.texts.Limited.{all-more, all-end}
use Rattle.analyser.proofs.texts.list_is_bytes.Goals as goal

pub loop-command-preserved : goal.loop-command-preserved
loop-command-preserved c =
    all-more (λ d. TextsAreBytes (command_value d)) c.args.list.now c.loop-command.command-index c.command-item.result (omega arith) c.command-item.is c.loop-command.invariant c.command_is_bytes.ensures.bytes

pub returns : goal.returns
returns c = record { bytes = All-map TextsAreBytes command_value c.args.list.now (all-end (λ d. TextsAreBytes (command_value d)) c.args.list.now c.loop-command.command-index (omega arith) c.loop-command.invariant) }
