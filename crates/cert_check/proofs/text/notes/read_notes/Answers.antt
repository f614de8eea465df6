use Rattle.std.proofs.Common.{◌∷◌, [], ◌∙◌, ap, map, true, List}
use Rattle.std.proofs.lemmas.List.{map-append}
use Rattle.cert_check.specs.declared.certificate.Note as public
use Rattle.cert_check.specs.Certificates.{note_value}
use Rattle.cert_check.proofs.texts.Pieces.{took-none, exits}
use Rattle.cert_check.proofs.texts.Noted.{notes-turn, notes-note, notes-step, took-notes}
use Rattle.cert_check.proofs.text.notes.read_notes.Goals as goal

pub returns-in_err-another : goal.returns-in_err-another
returns-in_err-another c = record {
  exact =
      exits (λ notes. map note_value notes.items) c.read_either.new.cursor c.from_residual.result c.in_err-another.field-0.0 c.from_residual.ensures.1
      (notes-turn c.args.version) (took-none c.args.cursor.now) c.in_err-another.ensures.exact;
}

pub returns-in_err-note : goal.returns-in_err-note
returns-in_err-note c = record {
  exact =
      exits (λ notes. map note_value notes.items) c.read_note.new.cursor c.from_residual-in_err-note.result c.in_err-note.field-0.0 c.from_residual-in_err-note.ensures.1
      (notes-note c.args.version (map note_value c.notes.notes.items) c.notes.invariant.0) (took-notes c.args.version (map note_value c.notes.notes.items) c.notes.another true c.notes-test.true c.notes.invariant.1) c.in_err-note.ensures.exact;
}

pub notes-preserved : goal.notes-preserved
notes-preserved c =
    notes-step c.args.version (map note_value c.notes.notes.items) (note_value c.in_ok-note.note) c.in_ok-note.follows (map note_value c.push.new.self.items)
    (ap (λ (ns : List public.Note). map note_value ns) c.in_ok-push.ensures.items ∙ map-append note_value c.notes.notes.items (c.in_ok-note.note ∷ [])) c.notes.invariant.0
    c.in_ok-note.ensures.exact.0 (took-notes c.args.version (map note_value c.notes.notes.items) c.notes.another true c.notes-test.true c.notes.invariant.1) c.in_ok-note.ensures.exact.1
