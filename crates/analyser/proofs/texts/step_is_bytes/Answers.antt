use Rattle.std.proofs.Common.{subst, List}
use Rattle.std.specs.List.{All}
use Rattle.ed_syntax.specs.Commands.{Command}
use Rattle.ed_rules.specs.Formed.{TextsAreBytes}
use Rattle.analyser.proofs.texts.step_is_bytes.Goals as goal

pub returns : goal.returns
returns c = record { bytes = (c.command_is_bytes.ensures.bytes, subst (λ (cs : List Command). All TextsAreBytes cs) c.list.ensures.value c.list_is_bytes.ensures.bytes) }
