-- A line's flag is its own, whatever its letters.
use Rattle.std.proofs.Common.{◌<◌, ◌∙◌, ap, sym, length, get_or, [], arith}
use Rattle.ed_base.specs.Buffer.{plain_line}
use Rattle.line_store.specs.Cut.{all_lines}
use Rattle.line_store.specs.Kept.{lines_of}
use Rattle.line_store.proofs.Lettered.{length-lettered, get_or-lettered}
use Rattle.line_store.proofs.kept.StoreLineStore.flagged.Goals as goal

pub flagged-requires : goal.flagged-requires
flagged-requires g c = omega (arith, c.requires.place, length-lettered c.self.inside.marks 0 (all_lines c.self.inside.lines), ap (λ v. length (lines_of v)) c.self.view_is)

pub returns : goal.returns
returns g c =
    let e = c.self.inside in
    let lines = all_lines e.lines in
    let place : c.args.i < length lines = omega (arith, c.requires.place, length-lettered e.marks 0 lines, ap (λ v. length (lines_of v)) c.self.view_is) in
    record {
      value = c.flagged.ensures.value ∙ sym (ap (λ l. l.flag) (get_or-lettered e.marks 0 c.args.i c.args.i lines (plain_line []) place (omega arith)))
          ∙ ap (λ v. (get_or (lines_of v) c.args.i (plain_line [])).flag) c.self.view_is;
    }
