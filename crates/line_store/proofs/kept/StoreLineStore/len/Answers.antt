-- As many lines as there are without letters.
use Rattle.std.proofs.Common.{ap, length, arith}
use Rattle.line_store.specs.Cut.{all_lines}
use Rattle.line_store.specs.Kept.{lines_of}
use Rattle.line_store.proofs.Lettered.{length-lettered}
use Rattle.line_store.proofs.kept.StoreLineStore.len.Goals as goal

pub returns : goal.returns
returns g c = record {
  value = omega (arith, c.len.ensures, length-lettered c.self.inside.marks 0 (all_lines c.self.inside.lines), ap (λ v. length (lines_of v)) c.self.view_is);
}
