use Rattle.std.proofs.Common.{ℕ, suc, List, ◌∙◌, sym, ap, subst}
use Rattle.std.proofs.lemmas.Result.{err_from_is_err_and}
use Rattle.ed_base.specs.Lines.{IsLine}
use Rattle.cert_check.specs.Certificates.{certificate_value}
use Rattle.cert_check.proofs.texts.Told.{no-version-line, other-version, told-exit, whole-read, more-left, version-read, at-end, not-at-end}
use Rattle.cert_check.proofs.text.reading.read_all.Goals as goal

pub returns-in_default : goal.returns-in_default
returns-in_default c = record {
  exact = no-version-line c.args.bytes.now (subst (λ (b : List ℕ). IsLine b) c.new-cursor.ensures.bytes c.in_default.ensures.exact);
}

pub returns-in_default-version_in : goal.returns-in_default-version_in
returns-in_default-version_in c = record {
  exact =
      other-version c.args.bytes.now c.in-Some.line.now c.next.new.self.bytes c.in-Some.ensures.exact.is_line (sym c.new-cursor.ensures.bytes ∙ c.in-Some.ensures.exact.parted)
      c.in_default-version_in.ensures.exact;
}

pub returns-in_err-certificate : goal.returns-in_err-certificate
returns-in_err-certificate c =
    let p = err_from_is_err_and c.from_residual.result c.from_residual.ensures.1 in
    record {
      exact =
          told-exit c.in-Some-version_in.version c.args.bytes.now c.next.new.self c.from_residual.result p.0 c.in_err-certificate.field-0.0 p.1 p.2
          (version-read c.in-Some-version_in.version c.args.bytes.now c.new-cursor.result.bytes c.in-Some.line.now c.next.new.self.bytes c.new-cursor.ensures.bytes c.in-Some-version_in.ensures.exact.0
          c.in-Some.ensures.exact.parted)
          (c.in-Some.ensures.exact.counted ∙ ap (λ (n : ℕ). suc n) c.new-cursor.ensures.above) c.in_err-certificate.ensures.exact;
    }

pub returns-then-not-is_at_end : goal.returns-then-not-is_at_end
returns-then-not-is_at_end c = record {
  exact =
      more-left c.in-Some-version_in.version c.args.bytes.now c.next.new.self c.read_rest.new.cursor (certificate_value c.in_ok-certificate.certificate)
      (version-read c.in-Some-version_in.version c.args.bytes.now c.new-cursor.result.bytes c.in-Some.line.now c.next.new.self.bytes c.new-cursor.ensures.bytes c.in-Some-version_in.ensures.exact.0
      c.in-Some.ensures.exact.parted)
      c.in_ok-certificate.ensures.exact.1 c.in_ok-certificate.ensures.exact.0
      (not-at-end c.is_at_end.result c.read_rest.new.cursor.bytes c.is_at_end.ensures.value c.if-not-is_at_end.true);
}

pub returns : goal.returns
returns c = record {
  exact =
      whole-read c.in-Some-version_in.version c.args.bytes.now c.next.new.self c.read_rest.new.cursor (certificate_value c.in_ok-certificate.certificate)
      (version-read c.in-Some-version_in.version c.args.bytes.now c.new-cursor.result.bytes c.in-Some.line.now c.next.new.self.bytes c.new-cursor.ensures.bytes c.in-Some-version_in.ensures.exact.0
      c.in-Some.ensures.exact.parted)
      c.in_ok-certificate.ensures.exact.1 c.in_ok-certificate.ensures.exact.0
      (at-end c.is_at_end.result c.read_rest.new.cursor.bytes c.is_at_end.ensures.value c.if-not-is_at_end.false);
}
