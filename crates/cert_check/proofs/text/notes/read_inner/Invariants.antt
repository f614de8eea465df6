use Rattle.std.proofs.Common.{length}
use Rattle.std.specs.List.{All}
use Rattle.cert_check.specs.text.HasText.{StateHasText}
use Rattle.cert_check.specs.text.Pieces.{Took}
use Rattle.cert_check.proofs.texts.Noted.{inner_texts}
use Rattle.cert_check.proofs.text.notes.read_inner.Given as goal

abbrev pub invariant-states : goal.invariant-states
invariant-states l = All (StateHasText l.version) l.states.items × Took (inner_texts l.version l.states.items) l.initial.cursor l.cursor

abbrev pub decreases-states : goal.decreases-states
decreases-states l = length l.cursor.bytes
