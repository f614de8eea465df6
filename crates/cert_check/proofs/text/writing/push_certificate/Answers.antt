use Rattle.std.proofs.Common.{◌∙◌, ◌++◌, List, map, ap}
use Rattle.std.specs.List.{flat_map}
use Rattle.cert_check.specs.declared.certificate.Note.{Note}
use Rattle.cert_check.specs.Certificates.{note_value, certificate_value}
use Rattle.cert_check.specs.text.Text.{lines_text, note_lines}
use Rattle.cert_check.proofs.texts.Written.{certificate-written}
use Rattle.cert_check.proofs.text.writing.push_certificate.Goals as goal

pub returns : goal.returns
returns g c =
    let written = g.W.TextWriter.written in
    record {
      appended =
          certificate-written (written c.args.out.now) (written c.push_opening.new.out) (written c.push_notes.new.out) (written c.push_closing.new.out) (certificate_value c.args.certificate.now)
          c.push_opening.ensures.appended
          (c.push_notes.ensures.appended
          ∙ ap (λ (ns : List Note). written c.push_opening.new.out ++ lines_text (flat_map (note_lines c.args.certificate.now.version) (map note_value ns))) c.as_slice.ensures.value)
          c.push_closing.ensures.appended;
    }
