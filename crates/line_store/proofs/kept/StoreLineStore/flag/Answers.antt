-- A line's flag is its own, whatever its letters.
use Rattle.std.proofs.Common.{◌<◌, ◌∙◌, [], refl, ap, sym, subst, length, length-set, get_or, true, arith}
use Rattle.ed_base.specs.Buffer.{plain_line, with_flag, flagged_at}
use Rattle.line_store.specs.Cut.{all_lines}
use Rattle.line_store.specs.Marks.{AllBelow}
use Rattle.line_store.specs.Kept.{lines_of, Unflagged, flag_count}
use Rattle.line_store.proofs.Lettered.{length-lettered}
use Rattle.line_store.proofs.Flags.{lettered-flagged}
use Rattle.line_store.proofs.kept.StoreLineStore.flag.Goals as goal

pub flagged-before-requires : goal.flagged-before-requires
flagged-before-requires g c =
    omega (arith, c.requires.place, length-lettered c.self.inside.marks 0 (all_lines c.self.inside.lines), ap (λ v. length (lines_of v)) c.self.view_is)

pub flag-requires : goal.flag-requires
flag-requires g c =
    omega (arith, c.requires.place, length-lettered c.self.inside.marks 0 (all_lines c.self.inside.lines), ap (λ v. length (lines_of v)) c.self.view_is)

pub invariant_of-self-2 : goal.invariant_of-self-2
invariant_of-self-2 g c =
    let e = c.self.inside in
    let lines = all_lines e.lines in
    let place : c.args.i < length lines =
    omega (arith, c.requires.place, length-lettered e.marks 0 lines, ap (λ v. length (lines_of v)) c.self.view_is) in
    let new = with_flag true (get_or lines c.args.i (plain_line [])) in
    let is = c.in_ok-flag.ensures.flagged in
    let same = length-set lines c.args.i new in (
      subst (λ n. AllBelow n e.marks) (sym (ap length is ∙ same)) c.self.invariant.0,
      subst (Unflagged c.place_exchanged-self-inside.result) (sym is)
          (c.place_exchanged-self-inside.ensures lines new refl c.self.invariant.1),
      c.flags_exchanged-self-inside.ensures lines c.args.i new place (omega (arith, c.len.ensures.value, ap length is, same))
          (sym c.flagged-before.ensures.value) refl c.self.invariant.2
          ∙ sym (ap flag_count is),
    )

pub returns-clause-flagged : goal.returns-clause-flagged
returns-clause-flagged g c =
    let e = c.self.inside in
    let lines = all_lines e.lines in
    let place : c.args.i < length lines =
    omega (arith, c.requires.place, length-lettered e.marks 0 lines, ap (λ v. length (lines_of v)) c.self.view_is) in
    rw c.in_ok-flag.ensures.flagged (lettered-flagged e.marks c.args.i true lines place)
    ∙ ap (λ v. flagged_at c.args.i true (lines_of v)) c.self.view_is
