use Rattle.cert_check.proofs.texts.Told.{reading-told}
use Rattle.cert_check.proofs.certificate.Certificate.read.Goals as goal

pub returns-in_err-read_all : goal.returns-in_err-read_all
returns-in_err-read_all c = record {
  exact = reading-told c.args.bytes.now c.from_residual.result c.in_err-read_all.field-0.0 c.from_residual.ensures.1 c.in_err-read_all.ensures.exact;
}
