use Rattle.std.proofs.Common.{ap, ◌∙◌, ◌++◌, List}
use Rattle.landmarks.specs.ChainValues.{ChainValue}
use Rattle.cert_check.specs.Certificates.{certificate_value}
use Rattle.cert_check.specs.text.Text.{chains_lines}
use Rattle.cert_check.proofs.texts.Written.{same-written, opening-written}
use Rattle.cert_check.proofs.text.writing.push_opening.Goals as goal

pub returns : goal.returns
returns g c =
    let written = g.W.TextWriter.written in
    record {
      appended =
          opening-written (written c.args.out.now) (written c.push_version_line.new.out) (written c.push_path_line.new.out) (written c.push_bounds_line.new.out)
          (written c.push_matched.new.out) (written c.push_chains.new.out) (certificate_value c.args.certificate.now)
          c.push_version_line.ensures.appended c.push_path_line.ensures.appended c.push_bounds_line.ensures.appended
          c.push_matched.ensures.appended
          (same-written (λ (chains : List ChainValue). chains_lines c.args.certificate.now.version chains) _ _ c.as_slice.result.now
          c.args.certificate.now.landmarks.items c.as_slice.ensures.value c.push_chains.ensures.appended);
    }
