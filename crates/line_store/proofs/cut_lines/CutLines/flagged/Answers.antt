-- A line that isn't cut has no flag.
use Rattle.std.proofs.Common.{◌∙◌, [], ap, sym, get_or, arith}
use Rattle.std.proofs.lemmas.Bool.{le-ltb}
use Rattle.ed_base.specs.Buffer.{plain_line}
use Rattle.line_store.specs.Cut.{all_lines}
use Rattle.line_store.proofs.Uncut.{flag-left}
use Rattle.line_store.proofs.cut_lines.CutLines.flagged.Goals as goal

pub returns-else-i-len : goal.returns-else-i-len
returns-else-i-len g c =
    let e = c.self.inside in
    let i = c.args.i in
    record {
      value = le-ltb i c.len.result (omega arith)
          ∙ sym (flag-left c.len.result i (g.L.BareLines.items e.cut) e.rest c.len.ensures.value (omega arith))
          ∙ ap (λ v. (get_or (all_lines v) i (plain_line [])).flag) c.self.view_is;
    }
