-- Letters change no flag, so the first flagged line is the one that was found.
use Rattle.std.proofs.Common.{◌∙◌, refl, ap, sym, length, arith}
use Rattle.ed_base.specs.Buffer.{flagged_place}
use Rattle.line_store.specs.Cut.{all_lines}
use Rattle.line_store.specs.Kept.{lines_of}
use Rattle.line_store.proofs.Flags.{flagged-found, flagged-none, none-flagged, unflagged-found}
use Rattle.line_store.proofs.kept.StoreLineStore.next_flagged.Goals as goal
use Rattle.line_store.proofs.kept.StoreLineStore.next_flagged.Goals.{then-place-len, else-place-len}

pub returns-then-self-eq0-clause-value : goal.returns-then-self-eq0-clause-value
returns-then-self-eq0-clause-value g c =
    let e = c.self.inside in
    let lines = all_lines e.lines in
    sym (flagged-none e.marks lines (length lines) (omega arith) (none-flagged lines (omega (arith, c.if-self-eq0.true, c.self.invariant.2)) (length lines) refl))
    ∙ ap (λ v. flagged_place (lines_of v)) c.self.view_is

pub invariant_of-self-2 : goal.invariant_of-self-2
invariant_of-self-2 g c =
    let e = c.self.inside in (
      c.self.invariant.0,
      unflagged-found e.unflagged c.min-from.result c.first_flagged-place.result (all_lines e.lines) (omega (arith, c.min-from.ensures)) c.self.invariant.1
          c.first_flagged-place.ensures.first,
      c.self.invariant.2,
    )

pub returns-clause-value : goal.returns-clause-value
returns-clause-value g c =
    let e = c.self.inside in
    let lines = all_lines e.lines in
    let place = c.first_flagged-place.result in
    let before = unflagged-found e.unflagged c.min-from.result place lines (omega (arith, c.min-from.ensures)) c.self.invariant.1 c.first_flagged-place.ensures.first in
    elim c.if-place-len.branch [
      | then-place-len w ↦ w.result-is
          ∙ sym (flagged-found e.marks lines place (omega (arith, w.if-place-len, c.len-2.ensures.value)) before
          (c.first_flagged-place.ensures.first.flagged (omega (arith, w.if-place-len, c.len-2.ensures.value))))
          ∙ ap (λ v. flagged_place (lines_of v)) c.self.view_is
      | else-place-len w ↦ w.result-is
          ∙ sym (flagged-none e.marks lines place (omega (arith, w.if-place-len, c.len-2.ensures.value)) before)
          ∙ ap (λ v. flagged_place (lines_of v)) c.self.view_is
    ]
