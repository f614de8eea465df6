use Rattle.std.proofs.Common.{length, map, ◌++◌}
use Rattle.std.specs.List.{All}
use Rattle.cert_check.specs.Certificates.{note_value}
use Rattle.cert_check.specs.text.HasText.{NoteHasText}
use Rattle.cert_check.specs.text.Pieces.{Took, texts, alone}
use Rattle.cert_check.proofs.texts.Noted.{note_texts, note_head}
use Rattle.cert_check.proofs.text.notes.read_notes.Given as goal

abbrev pub invariant-notes : goal.invariant-notes
invariant-notes l =
    All (NoteHasText l.fn.version) (map note_value l.notes.items) × Took (note_texts l.fn.version (map note_value l.notes.items) ++ texts (alone note_head l.another)) l.fn.cursor l.cursor

abbrev pub decreases-notes : goal.decreases-notes
decreases-notes l = length l.cursor.bytes
