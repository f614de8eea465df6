-- A letter's place is that of its line.
use Rattle.std.proofs.Common.{◌∙◌, ap, sym}
use Rattle.ed_base.specs.Buffer.{marked_place}
use Rattle.line_store.specs.Cut.{all_lines}
use Rattle.line_store.specs.Kept.{lines_of}
use Rattle.line_store.proofs.Lettered.{marked_place-lettered}
use Rattle.line_store.proofs.kept.StoreLineStore.marked.Goals as goal

pub returns : goal.returns
returns g c =
    let e = c.self.inside in
    record {
      value = c.place_of.ensures.value
          ∙ sym (marked_place-lettered e.marks c.args.letter (all_lines e.lines) c.place_of.ensures.letter c.self.invariant.0)
          ∙ ap (λ v. marked_place c.args.letter (lines_of v)) c.self.view_is;
    }
