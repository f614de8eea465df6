use Rattle.std.proofs.Common.{sym, subst}
use Rattle.cert_check.specs.declared.certificate.Version.{Version}
use Rattle.cert_check.specs.text.FactsText.{AreToldIn}
use Rattle.cert_check.specs.text.Text.{told_lines}
use Rattle.cert_check.specs.text.Pieces.{Reads, same}
use Rattle.cert_check.specs.text.Wanted.{key}
use Rattle.cert_check.proofs.text.fact_lines.read_facts.Goals as goal

pub returns-in-Three : goal.returns-in-Three
returns-in-Three c = record {
  exact =
      subst
      (λ (v : Version).
      Reads same (told_lines v (key c.args.lines_kind) (key c.args.clear_kind)) (AreToldIn v c.args.marks.now) c.args.cursor.now c.read_both.new.cursor c.read_both.result)
      (sym c.in-Three.is) c.read_both.ensures.exact;
}
