use Rattle.std.proofs.Common.{◌≡◌, ◌∙◌, sym, ap, subst}
use Rattle.std.proofs.lemmas.Bool.{not-false}
use Rattle.ed_rules.specs.declared.state.Old.{Old}
use Rattle.ed_rules.specs.declared.state.Undo.{Undo}
use Rattle.cert_check.specs.text.Pieces.{same, Took, texts, buffer_value, undo_lines, UndoIsFormed}
use Rattle.cert_check.proofs.texts.Pieces.{took-none, exits}
use Rattle.cert_check.proofs.texts.Sequence.{stops-last}
use Rattle.cert_check.proofs.texts.Stated.{undo-found, found-read, undo_with, undo-read}
use Rattle.cert_check.proofs.text.states.read_undo.Goals as goal

pub returns-in_err-found : goal.returns-in_err-found
returns-in_err-found c = record {
  exact =
      exits same c.read_found.new.cursor c.from_residual.result c.in_err-found.field-0.0 c.from_residual.ensures.1
      (undo-found c.args.version) (took-none c.args.cursor.now) c.in_err-found.ensures.exact;
}

pub returns-in_err-old : goal.returns-in_err-old
returns-in_err-old c = record {
  exact =
      stops-last same c.read_earlier.new.cursor c.from_residual-in_err-old.result c.in_err-old.field-0.0
      c.from_residual-in_err-old.ensures.1
      (found-read c.args.version c.in_ok-found.found (not-false c.in_ok-found.found.was c.if-not-found.false) c.in_ok-found.ensures.exact)
      c.in_err-old.ensures.exact;
}

pub returns : goal.returns
returns c =
    let found = c.in_ok-found.found in
    let old = c.in_ok-old.old in
    let is : c.new-undo-2.result ≡ undo_with found (buffer_value old).0 = c.new-undo-2.ensures.value
    ∙ ap (λ (o : Old). undo_with found o) c.new-was.ensures.value in
    record {
      exact = subst (λ (u : Undo). UndoIsFormed c.args.version (u, old.has)
          × Took (texts (undo_lines c.args.version (u, old.has))) c.args.cursor.now c.read_earlier.new.cursor) (sym is)
          (undo-read c.args.version found (buffer_value old) (not-false found.was c.if-not-found.false) c.in_ok-found.ensures.exact
          c.in_ok-old.ensures.exact);
    }
