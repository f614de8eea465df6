use Rattle.std.proofs.Common.{◌∙◌, map, ap, sym}
use Rattle.ed_syntax.specs.PublicTypes.{steps_value}
use Rattle.ed_syntax.specs.PublicScript.{script_value}
use Rattle.cert_check.specs.Certificates.{note_value, certificate_value}
use Rattle.cert_check.specs.checker.Valid.{told, counted, has_quit}
use Rattle.cert_check.proofs.verdicts.Judging.{judged-by, judged-by_shape, judged-by_letters, starts-none, starts-some}
use Rattle.cert_check.proofs.checker.judge.Goals as goal

pub returns-then-not-are_shaped : goal.returns-then-not-are_shaped
returns-then-not-are_shaped c = record {
  exact =
      c.verdict_at.ensures.value
      ∙ sym (judged-by_shape (script_value c.args.script.now) (certificate_value c.args.certificate.now) (counted (steps_value c.as_slice-commands.result.now)) (map note_value c.as_slice-notes.result.now)
      (ap (λ l. counted (steps_value l)) c.as_slice-commands.ensures.value) (ap (λ l. map note_value l) c.as_slice-notes.ensures.value)
      (sym c.are_shaped.ensures.value ∙ c.if-not-are_shaped.true));
}

pub returns-in_default : goal.returns-in_default
returns-in_default c = record {
  exact =
      c.verdict_at-in_default.ensures.value
      ∙ sym (judged-by_letters (script_value c.args.script.now) (certificate_value c.args.certificate.now) (counted (steps_value c.as_slice-commands.result.now)) (map note_value c.as_slice-notes.result.now)
      (ap (λ l. counted (steps_value l)) c.as_slice-commands.ensures.value) (ap (λ l. map note_value l) c.as_slice-notes.ensures.value)
      (sym c.are_shaped.ensures.value ∙ c.if-not-are_shaped.false)
      (starts-none (script_value c.args.script.now) (certificate_value c.args.certificate.now) c.in_ok-coming.field-0 c.in_default.is c.in_ok-coming.ensures.exact));
}

pub returns : goal.returns
returns c =
    let begins = starts-some (script_value c.args.script.now) (certificate_value c.args.certificate.now) c.in_ok-coming.field-0 c.in-Some.coming c.in-Some.is
    c.in_ok-coming.ensures.exact in
    record {
      exact =
          c.verdict_after-verdict.ensures.value
          ∙ judged-by (script_value c.args.script.now) (certificate_value c.args.certificate.now) c.in_ok-sight.sight c.as_slice-writes.result.now (counted (steps_value c.as_slice-commands.result.now)) (map note_value c.as_slice-notes.result.now)
          c.tell.new.state c.count-counted.result.quit c.in_ok-failed.failed c.go_through.new.coming
          c.in_ok-sight.ensures.value c.as_slice-writes.ensures.value (ap (λ l. counted (steps_value l)) c.as_slice-commands.ensures.value) (ap (λ l. map note_value l) c.as_slice-notes.ensures.value) (c.tell.ensures.value ∙ ap (λ s. told c.in_ok-sight.sight s) begins.1)
          (c.count-counted.ensures.quit ∙ ap (λ l. has_quit (steps_value l)) c.as_slice-commands.ensures.value) (sym c.are_shaped.ensures.value ∙ c.if-not-are_shaped.false) begins.0 c.in_ok-failed.ensures.value;
    }
