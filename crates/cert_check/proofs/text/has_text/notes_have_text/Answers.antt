use Rattle.std.proofs.Common.{arith}
use Rattle.cert_check.specs.Certificates.{note_value}
use Rattle.cert_check.specs.text.HasText.{NoteHasText}
use Rattle.std.proofs.lemmas.List.Elements.{All-map}
use Rattle.cert_check.proofs.texts.Limited.{all-more, all-end, all-fails, from-map}
use Rattle.cert_check.proofs.text.has_text.notes_have_text.Goals as goal

pub loop-note-preserved : goal.loop-note-preserved
loop-note-preserved c =
    all-more (λ n. NoteHasText c.args.version (note_value n)) c.args.notes.now c.loop-note.note-index c.note-item.result (omega arith) c.note-item.is c.loop-note.invariant
    (c.note_has_text.ensures.exact.0 c.if-not-note_has_text.false)

pub returns-then-not-note_has_text : goal.returns-then-not-note_has_text
returns-then-not-note_has_text c = record {
  exact = (
    λ t. absurd cc,
    λ all. absurd (all-fails (λ n. NoteHasText c.args.version (note_value n)) c.args.notes.now c.loop-note.note-index c.note-item.result (omega arith) c.note-item.is
        (λ h. let yes = c.note_has_text.ensures.exact.1 h in let is = c.if-not-note_has_text.true in absurd cc) (from-map (NoteHasText c.args.version) note_value c.args.notes.now all)),
  );
}

pub returns : goal.returns
returns c = record {
  exact = (λ _. All-map (NoteHasText c.args.version) note_value c.args.notes.now (all-end (λ n. NoteHasText c.args.version (note_value n)) c.args.notes.now c.loop-note.note-index (omega arith) c.loop-note.invariant), λ _. cc);
}
