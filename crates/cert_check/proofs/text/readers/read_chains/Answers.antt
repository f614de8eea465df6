use Rattle.std.proofs.Common.{sym, subst}
use Rattle.cert_check.specs.declared.certificate.Version.{Version}
use Rattle.cert_check.specs.text.HasText.{ChainsHaveText}
use Rattle.cert_check.specs.text.Text.{chains_lines}
use Rattle.cert_check.specs.text.Pieces.{Reads}
use Rattle.cert_check.proofs.text.readers.read_chains.Goals as goal

pub returns-in-Three : goal.returns-in-Three
returns-in-Three c = record {
  exact =
      subst (λ (v : Version). Reads (λ chains. chains.items) (chains_lines v) (ChainsHaveText v) c.args.cursor.now c.read_at.new.cursor c.read_at.result)
      (sym c.in-Three.is) c.read_at.ensures.exact;
}
