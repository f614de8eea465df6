use Rattle.std.proofs.Common.{subst, sym}
use Rattle.cert_check.specs.declared.certificate.Looped.{Looped}
use Rattle.cert_check.specs.Certificates.{boxed_value, looped_value}
use Rattle.cert_check.specs.text.Text.{state_lines}
use Rattle.cert_check.specs.text.Pieces.{Took, texts, inner_lines, list_lines, ListIsFormed}
use Rattle.cert_check.proofs.texts.Pieces.{took-none, took-more, texts-append, exits}
use Rattle.cert_check.proofs.texts.Noted.{list-state, list-inner, took-is}
use Rattle.cert_check.proofs.text.notes.read_list.Goals as goal

pub returns-in_err-invariant : goal.returns-in_err-invariant
returns-in_err-invariant c = record {
  exact =
      exits boxed_value c.read_state.new.cursor c.from_residual.result c.in_err-invariant.field-0.0 c.from_residual.ensures.1
      (list-state c.args.version) (took-none c.args.cursor.now) c.in_err-invariant.ensures.exact;
}

pub returns-in_err-inner : goal.returns-in_err-inner
returns-in_err-inner c = record {
  exact =
      exits boxed_value c.read_inner.new.cursor c.from_residual-in_err-inner.result c.in_err-inner.field-0.0 c.from_residual-in_err-inner.ensures.1
      (list-inner c.args.version c.in_ok-invariant.invariant c.in_ok-invariant.ensures.exact.0) c.in_ok-invariant.ensures.exact.1 c.in_err-inner.ensures.exact;
}

pub returns : goal.returns
returns c = record {
  exact = subst (λ (l : Looped). ListIsFormed c.args.version (looped_value l) × Took (texts (list_lines c.args.version (looped_value l))) c.args.cursor.now c.read_inner.new.cursor)
      (sym c.in_ok-new.ensures.ok) (
        (c.in_ok-invariant.ensures.exact.0, c.in_ok-inner.ensures.exact.0),
        took-is (sym (texts-append (state_lines c.args.version c.in_ok-invariant.invariant) (inner_lines c.args.version c.in_ok-inner.inner.items)))
            (took-more c.in_ok-invariant.ensures.exact.1 c.in_ok-inner.ensures.exact.1),
      );
}
