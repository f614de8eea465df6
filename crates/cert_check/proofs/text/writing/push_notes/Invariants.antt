use Rattle.std.proofs.Common.{◌≡◌, ◌++◌, map, take}
use Rattle.std.specs.List.{flat_map}
use Rattle.cert_check.specs.Certificates.{note_value}
use Rattle.cert_check.specs.text.Text.{lines_text, note_lines}
use Rattle.cert_check.proofs.text.writing.push_notes.Given as goal

abbrev pub invariant-loop-note : goal.invariant-loop-note
invariant-loop-note g l = g.W.TextWriter.written l.out ≡ g.W.TextWriter.written l.initial.out ++ lines_text (flat_map (note_lines l.version) (map note_value (take l.note-index l.notes)))
