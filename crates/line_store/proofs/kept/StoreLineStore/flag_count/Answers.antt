-- Letters change no flag, so as many lines have it as are counted.
use Rattle.std.proofs.Common.{◌∙◌, ap, sym}
use Rattle.line_store.specs.Cut.{all_lines}
use Rattle.line_store.specs.Kept.{flag_count, lines_of}
use Rattle.line_store.proofs.Flags.{count-lettered}
use Rattle.line_store.proofs.kept.StoreLineStore.flag_count.Goals as goal

pub returns : goal.returns
returns g c = record {
  value = c.self.invariant.2 ∙ sym (count-lettered c.self.inside.marks 0 (all_lines c.self.inside.lines))
      ∙ ap (λ v. flag_count (lines_of v)) c.self.view_is;
}
