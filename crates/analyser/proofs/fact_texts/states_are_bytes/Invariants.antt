use Rattle.std.proofs.Common.{take}
use Rattle.std.specs.List.{All}
use Rattle.analyser.specs.Walking.{StateIsBytes}
use Rattle.analyser.proofs.fact_texts.states_are_bytes.Given as goal

abbrev pub invariant-loop-state : goal.invariant-loop-state
invariant-loop-state l = All StateIsBytes (take l.state-index l.states)
