use Rattle.std.proofs.Common.{◌≡◌, ◌++◌, take}
use Rattle.std.specs.Prelude.{codes}
use Rattle.std.specs.List.{flat_map}
use Rattle.cert_check.specs.text.Text.{lines_text, headed_lines}
use Rattle.cert_check.proofs.text.writing.push_inner.Given as goal

abbrev pub invariant-loop-state : goal.invariant-loop-state
invariant-loop-state g l = g.W.TextWriter.written l.out ≡ g.W.TextWriter.written l.initial.out ++ lines_text (flat_map (headed_lines l.version (codes "inner")) (take l.state-index l.states))
