use Rattle.std.proofs.Common.{◌++◌, sym}
use Rattle.std.specs.Prelude.{codes}
use Rattle.cert_check.specs.text.Text.{spaced, possible}
use Rattle.cert_check.proofs.text.lines.replacements_in.Goals as goal

pub returns-in_default : goal.returns-in_default
returns-in_default c = record {
  exact = λ v h e.
      c.in_default.ensures.cases (spaced (possible v.none (codes "none") ++ possible v.plain (codes "plain") ++ possible v.split (codes "split"))) (sym e);
}
