-- The new line's letters are at its place, and those of the line before it have gone with that.
use Rattle.std.proofs.Common.{◌≡◌, ◌<◌, ◌∙◌, ap, sym, subst, length, length-set, arith, remove, set, get_or, []}
use Rattle.ed_base.specs.Buffer.{plain_line, SharesNoLetter}
use Rattle.line_store.specs.Cut.{all_lines}
use Rattle.line_store.specs.Marks.{AllBelow, lettered}
use Rattle.line_store.specs.Shifts.{without_line}
use Rattle.line_store.specs.Kept.{lines_of, Unflagged, flag_count}
use Rattle.line_store.proofs.Lettered.{length-lettered, lettered-at, HaveNoPlace}
use Rattle.line_store.proofs.Flags.{flag-at, exchanged-places, exchanged-below, lettered-exchange}
use Rattle.line_store.proofs.kept.StoreLineStore.exchange.Goals as goal

pub exchange-requires : goal.exchange-requires
exchange-requires g c = omega (arith, c.requires.place, length-lettered c.self.inside.marks 0 (all_lines c.self.inside.lines), ap (λ v. length (lines_of v)) c.self.view_is)

pub invariant_of-self : goal.invariant_of-self
invariant_of-self g c =
    let e = c.self.inside in
    let lines = all_lines e.lines in
    let place : c.args.i < length lines = omega (arith, c.requires.place, length-lettered e.marks 0 lines, ap (λ v. length (lines_of v)) c.self.view_is) in
    let bare = c.line.inside.bare in
    let long : length lines ≡ length (all_lines c.exchange.new.self) = sym (ap length c.in-Ok.ensures.exchanged ∙ length-set lines c.args.i bare) in (
      subst (λ n. AllBelow n c.pass_on-letters.new.self) long (subst (AllBelow (length lines)) (sym c.pass_on-letters.ensures.value)
          (exchanged-below e.marks c.args.i c.line.inside.letters lines bare place c.self.invariant.0)),
      subst (Unflagged c.place_exchanged-self-inside.result) (sym c.in-Ok.ensures.exchanged)
          (c.place_exchanged-self-inside.ensures lines bare (sym c.flag-flag.ensures.value) c.self.invariant.1),
      c.flags_exchanged-self-inside.ensures lines c.args.i bare place (omega (arith, c.len.ensures.value))
          (flag-at lines c.args.i c.in-Ok.before c.flag.result place c.in-Ok.ensures.value c.flag.ensures.value)
          (sym c.flag-flag.ensures.value) c.self.invariant.2
          ∙ sym (ap flag_count c.in-Ok.ensures.exchanged),
    )

pub returns-in-Ok-clause-value : goal.returns-in-Ok-clause-value
returns-in-Ok-clause-value g c =
    let e = c.self.inside in
    let lines = all_lines e.lines in
    let place : c.args.i < length lines = omega (arith, c.requires.place, length-lettered e.marks 0 lines, ap (λ v. length (lines_of v)) c.self.view_is) in
    rw c.pass_on-letters.ensures.letters (
    sym (lettered-at e.marks lines c.args.i c.in-Ok.before place c.in-Ok.ensures.value)
    ∙ ap (λ v. get_or (lines_of v) c.args.i (plain_line [])) c.self.view_is)

pub returns-in-Ok-clause-exchanged : goal.returns-in-Ok-clause-exchanged
returns-in-Ok-clause-exchanged g c =
    let e = c.self.inside in
    let lines = all_lines e.lines in
    let bare = c.line.inside.bare in
    let letters = c.line.inside.letters in
    let place : c.args.i < length lines = omega (arith, c.requires.place, length-lettered e.marks 0 lines, ap (λ v. length (lines_of v)) c.self.view_is) in
    let shares : SharesNoLetter c.args.line (remove (lettered e.marks 0 lines) c.args.i) = subst (λ v. SharesNoLetter c.args.line (remove (lines_of v) c.args.i)) (sym c.self.view_is) c.requires.letters in
    let none : HaveNoPlace letters (without_line c.args.i e.marks) = subst (λ l. HaveNoPlace l.letters (without_line c.args.i e.marks)) (sym c.line.view_is)
    (exchanged-places e.marks c.args.i lines c.args.line place c.self.invariant.0 shares) in
    rw (c.pass_on-letters.ensures.value, c.in-Ok.ensures.exchanged) (
    lettered-exchange e.marks c.args.i lines bare letters place c.line.invariant none
    ∙ ap (λ v. set (lines_of v) c.args.i (record bare { letters = letters })) c.self.view_is
    ∙ ap (set (lines_of c.args.self.now) c.args.i) c.line.view_is)
