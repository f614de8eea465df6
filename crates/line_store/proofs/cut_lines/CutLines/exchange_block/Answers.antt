-- The lines of the file come after all others.
use Rattle.std.proofs.Common.{◌≤◌, ap, length, arith}
use Rattle.std.proofs.lemmas.List.{length-append}
use Rattle.std.proofs.lemmas.Result.{on_ok_weaker}
use Rattle.ed_base.specs.Lines.{lines_of}
use Rattle.line_store.specs.Cut.{all_lines, lines_left}
use Rattle.line_store.proofs.Uncut.{came-last}
use Rattle.line_store.proofs.cut_lines.CutLines.exchange_block.Goals as goal

pub returns-in-Ok-clause-put : goal.returns-in-Ok-clause-put
returns-in-Ok-clause-put g c =
    let e = c.self.inside in
    let old = all_lines c.args.self.now in
    let last : length old ≤ c.args.from =
    omega (
      arith,
      ap (λ v. length (all_lines v)) c.self.view_is,
      length-append (g.L.BareLines.items e.cut) (lines_left e.rest),
      c.self.invariant.0,
      c.len.ensures.value,
    ) in
    on_ok_weaker c.put_file.result
    (came-last c.args.from c.args.to (lines_of c.in-Ok.file) c.args.new old (all_lines c.put_file.new.self) last c.requires.order c.in-Ok.ensures.value)
    c.put_file.ensures.put
