use Rattle.std.proofs.Common.{◌∙◌, ◌++◌, ◌∷◌, [], ℕ, List, ap}
use Rattle.std.specs.Prelude.{codes}
use Rattle.cert_check.specs.Certificates.{certificate_value}
use Rattle.cert_check.specs.text.Text.{lines_text, texts_line}
use Rattle.cert_check.proofs.texts.Written.{closing-written}
use Rattle.cert_check.proofs.text.writing.push_closing.Goals as goal

pub returns : goal.returns
returns g c =
    let written = g.W.TextWriter.written in
    record {
      appended =
          closing-written (written c.args.out.now) (written c.push_headed.new.out) (written c.push_bounds_line.new.out) (written c.push_texts_line.new.out) (certificate_value c.args.certificate.now)
          c.push_headed.ensures.appended c.push_bounds_line.ensures.appended
          (◌∙◌ {b = written c.push_bounds_line.new.out ++ lines_text (texts_line (codes "writes") c.as_slice.result.now ∷ [])} c.push_texts_line.ensures.appended
          (ap (λ (ws : List (List ℕ)). written c.push_bounds_line.new.out ++ lines_text (texts_line (codes "writes") ws ∷ [])) c.as_slice.ensures.value));
    }
