-- No line that isn't cut has the flag.
use Rattle.std.proofs.Common.{◌∙◌, ap, sym, min}
use Rattle.ed_base.specs.Parts.{block}
use Rattle.line_store.specs.Cut.{all_lines, lines_left}
use Rattle.line_store.specs.Kept.{flag_count}
use Rattle.line_store.proofs.Uncut.{flags-both, flags-left}
use Rattle.line_store.proofs.cut_lines.CutLines.flags_among.Goals as goal

pub returns : goal.returns
returns g c =
    let e = c.self.inside in
    let cut = g.L.BareLines.items e.cut in
    let n = c.len-cut.result in
    record {
      value = c.flags_among.ensures.value
          ∙ ap (λ k. flag_count (block k c.min-2.result cut)) c.min.ensures
          ∙ ap (λ k. flag_count (block (min c.args.from n) k cut)) c.min-2.ensures
          ∙ sym (flags-both c.args.from c.args.to n cut (lines_left e.rest) c.len-cut.ensures.value c.requires.order (flags-left e.rest))
          ∙ ap (λ v. flag_count (block c.args.from c.args.to (all_lines v))) c.self.view_is;
    }
