-- Each flag that is taken leaves fewer, and the lines as they are without flags.
use Rattle.std.proofs.Common.{◌≡◌, ◌∙◌, None, false, ap, arith, sym}
use Rattle.std.specs.Prelude.{count_by}
use Rattle.ed_base.specs.Buffer.{flagged_at, flagged_place}
use Rattle.ed_syntax.specs.meaning.States.{unflagged}
use Rattle.ed_commands.proofs.Undoing.{fewer-flags, none-flagged, unflagged-taken}
use Rattle.ed_commands.proofs.editor.undoing.take_flags.Goals as goal

pub loop-place-smaller : goal.loop-place-smaller
loop-place-smaller g c =
    let lines = g.S.LineStore.lines c.loop-place.store in
    let place = c.in-Some.place in
    omega (
      arith,
      ap (count_by (λ line. line.flag)) (c.unflag.ensures.unflagged ∙ ap (flagged_at place false) c.next_flagged.ensures.unchanged),
      fewer-flags lines place (sym c.next_flagged.ensures.value ∙ c.in-Some.is),
    )

pub loop-place-preserved : goal.loop-place-preserved
loop-place-preserved g c =
    let lines = g.S.LineStore.lines c.loop-place.store in
    let place = c.in-Some.place in
    ap unflagged (c.unflag.ensures.unflagged ∙ ap (flagged_at place false) c.next_flagged.ensures.unchanged)
    ∙ unflagged-taken place lines ∙ c.loop-place.invariant

pub returns : goal.returns
returns g c =
    let lines = g.S.LineStore.lines c.loop-place.store in
    let none : flagged_place lines ≡ None = sym c.next_flagged.ensures.value ∙ c.in_default.is in
    record { taken = c.next_flagged.ensures.unchanged ∙ sym (none-flagged lines none) ∙ c.loop-place.invariant }
