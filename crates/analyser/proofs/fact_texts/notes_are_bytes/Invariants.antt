use Rattle.std.proofs.Common.{take}
use Rattle.std.specs.List.{All}
use Rattle.cert_check.specs.Certificates.{note_value}
use Rattle.analyser.specs.Walking.{NoteIsBytes}
use Rattle.analyser.proofs.fact_texts.notes_are_bytes.Given as goal

abbrev pub invariant-loop-note : goal.invariant-loop-note
invariant-loop-note l = All (λ n. NoteIsBytes (note_value n)) (take l.note-index l.notes)
