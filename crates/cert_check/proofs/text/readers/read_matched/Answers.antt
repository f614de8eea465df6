use Rattle.std.proofs.Common.{sym, subst}
use Rattle.cert_check.specs.declared.certificate.Version.{Version}
use Rattle.cert_check.specs.text.HasText.{IsSaidIn}
use Rattle.cert_check.specs.text.Text.{matched_lines}
use Rattle.cert_check.specs.text.Pieces.{Reads, same}
use Rattle.cert_check.specs.text.Wanted.{key}
use Rattle.cert_check.proofs.text.readers.read_matched.Goals as goal

pub returns-in-Two : goal.returns-in-Two
returns-in-Two c = record {
  exact =
      subst (λ (v : Version). Reads same (matched_lines v (key c.args.kind)) (IsSaidIn v) c.args.cursor.now c.read_set.new.cursor c.read_set.result)
      (sym c.in-Two.is) c.read_set.ensures.exact;
}

pub returns-in-Three : goal.returns-in-Three
returns-in-Three c = record {
  exact =
      subst (λ (v : Version). Reads same (matched_lines v (key c.args.kind)) (IsSaidIn v) c.args.cursor.now c.read_set-in-Three.new.cursor c.read_set-in-Three.result)
      (sym c.in-Three.is) c.read_set-in-Three.ensures.exact;
}
