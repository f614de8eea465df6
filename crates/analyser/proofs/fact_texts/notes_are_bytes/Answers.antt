use Rattle.std.proofs.Common.{arith}
use Rattle.std.proofs.lemmas.List.Elements.{All-map}
use Rattle.cert_check.specs.Certificates.{note_value}
use Rattle.cert_check.proofs.texts.Limited.{all-more, all-end}
use Rattle.analyser.specs.Walking.{NoteIsBytes}
use Rattle.analyser.proofs.fact_texts.notes_are_bytes.Goals as goal

pub loop-note-preserved : goal.loop-note-preserved
loop-note-preserved c =
    all-more (λ n. NoteIsBytes (note_value n)) c.args.notes.now c.loop-note.note-index c.note-item.result (omega arith) c.note-item.is c.loop-note.invariant
    c.note_is_bytes.ensures.bytes

pub returns : goal.returns
returns c = record {
  bytes =
      All-map NoteIsBytes note_value c.args.notes.now
      (all-end (λ n. NoteIsBytes (note_value n)) c.args.notes.now c.loop-note.note-index (omega arith) c.loop-note.invariant);
}
