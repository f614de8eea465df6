-- Each line that has the flag is cut.
use Rattle.std.proofs.Common.{◌∙◌, ap, arith}
use Rattle.line_store.specs.Cut.{all_lines, lines_left}
use Rattle.line_store.specs.Kept.{flag_count}
use Rattle.line_store.proofs.Taken.{flags-append}
use Rattle.line_store.proofs.Uncut.{flags-left}
use Rattle.line_store.proofs.cut_lines.CutLines.exchange_cut.Goals as goal

pub exchange_lines-requires-clause-flags : goal.exchange_lines-requires-clause-flags
exchange_lines-requires-clause-flags g c =
    let e = c.self.inside in
    omega (
      arith,
      c.requires.flags,
      ap flag_count (ap all_lines c.self.view_is ∙ c.open.ensures.unchanged),
      flags-append (g.L.BareLines.items e.cut) (lines_left e.rest),
      flags-left e.rest,
    )
