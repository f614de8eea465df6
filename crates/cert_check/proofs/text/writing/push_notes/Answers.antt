use Rattle.std.proofs.Common.{◌∙◌, ◌+◌, ◌++◌, List, ap, sym, arith, take}
use Rattle.std.proofs.lemmas.List.Folds.{flat_map-map}
use Rattle.cert_check.specs.Certificates.{note_value}
use Rattle.cert_check.specs.text.Text.{Line, lines_text, note_lines}
use Rattle.cert_check.proofs.texts.Written.{one-more}
use Rattle.cert_check.proofs.text.writing.push_notes.Goals as goal

pub loop-note-preserved : goal.loop-note-preserved
loop-note-preserved g c =
    let written = g.W.TextWriter.written in
    one-more (λ n. note_lines c.args.version (note_value n)) c.args.notes.now c.loop-note.note-index c.note-item.result (written c.args.out.now) (written c.loop-note.out) (written c.push_note.new.out)
    (omega arith) c.note-item.is
    (c.loop-note.invariant ∙ ap (λ (ls : List Line). written c.args.out.now ++ lines_text ls) (flat_map-map (note_lines c.args.version) note_value (take c.loop-note.note-index c.args.notes.now)))
    c.push_note.ensures.appended
    ∙ ap (λ (ls : List Line). written c.args.out.now ++ lines_text ls) (sym (flat_map-map (note_lines c.args.version) note_value (take (c.loop-note.note-index + 1) c.args.notes.now)))
