use Rattle.std.proofs.Common.{take}
use Rattle.std.specs.List.{All}
use Rattle.cert_check.specs.text.HasText.{StateHasText}
use Rattle.cert_check.proofs.text.has_text.inner_have_text.Given as goal

abbrev pub invariant-loop-state : goal.invariant-loop-state
invariant-loop-state l = All (StateHasText l.version) (take l.state-index l.states)
