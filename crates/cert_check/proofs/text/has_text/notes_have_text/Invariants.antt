use Rattle.std.proofs.Common.{take}
use Rattle.std.specs.List.{All}
use Rattle.cert_check.specs.Certificates.{note_value}
use Rattle.cert_check.specs.text.HasText.{NoteHasText}
use Rattle.cert_check.proofs.text.has_text.notes_have_text.Given as goal

abbrev pub invariant-loop-note : goal.invariant-loop-note
invariant-loop-note l = All (λ n. NoteHasText l.version (note_value n)) (take l.note-index l.notes)
