-- The lines are exchanged, as far as there are any, and may be exchanged again.
use Rattle.std.proofs.Common.{◌≡◌, ◌≤◌, ◌+◌, ◌-◌, ◌∙◌, ap, sym, length, map, min, arith}
use Rattle.std.proofs.lemmas.List.{length-map}
use Rattle.ed_base.specs.Buffer.{Line, plain_line, texts}
use Rattle.ed_base.specs.Parts.{exchanged}
use Rattle.ed_commands.proofs.Blocks.{length-exchanged}
use Rattle.ed_commands.proofs.Changes.{texts-back}
use Rattle.ed_commands.proofs.Texts.{texts-plain}
use Rattle.ed_commands.proofs.Texts.{texts-exchanged}
use Rattle.ed_commands.proofs.Undoing.{exchanged-cut}
use Rattle.ed_commands.proofs.editor.undoing.put_back.Goals as goal

pub overflow_sub-reached : goal.overflow_sub-reached
overflow_sub-reached g c =
    let before = g.S.LineStore.lines c.args.store.now in
    let order : c.min-first.result ≤ c.min-to.result = omega (arith, c.saturating_add.ensures) in
    omega (
      arith,
      c.len-last.ensures.value,
      c.len.ensures.value,
      ap length c.in-Ok.ensures.put,
      length-exchanged c.min-first.result c.min-to.result (map plain_line c.replace-new.result) before order
          (omega (arith, c.len-last.ensures.value)),
    )

pub overflow_sub-entered : goal.overflow_sub-entered
overflow_sub-entered g c =
    let before = g.S.LineStore.lines c.args.store.now in
    let order : c.min-first.result ≤ c.min-to.result = omega (arith, c.saturating_add.ensures) in
    omega (
      arith,
      c.len-last.ensures.value,
      c.len.ensures.value,
      ap length c.in-Ok.ensures.put,
      length-exchanged c.min-first.result c.min-to.result (map plain_line c.replace-new.result) before order
          (omega (arith, c.len-last.ensures.value)),
    )

pub returns-in-Ok-clause-texts : goal.returns-in-Ok-clause-texts
returns-in-Ok-clause-texts g c =
    let before = g.S.LineStore.lines c.args.store.now in
    let from = c.min-first.result in
    let to = c.min-to.result in
    let new = map plain_line c.replace-new.result in
    let later = c.args.from.now + c.args.entered.now in
    let long : length (texts before) ≡ c.len-last.result = length-map before (λ (l : Line). l.bytes) ∙ sym c.len-last.ensures.value in
    let i : from ≡ min c.args.from.now (length (texts before)) = omega (arith, long) in
    let j : to ≡ min later (length (texts before)) = omega (arith, long, c.len-last.type_inv, c.saturating_add.ensures) in
    ap texts c.in-Ok.ensures.put
    ∙ texts-exchanged from to new before
    ∙ ap (λ t. exchanged from to t (texts before)) (texts-plain c.replace-new.result ∙ c.replace-new.ensures.value)
    ∙ exchanged-cut c.args.from.now later from to c.args.removed.now (texts before) i j

pub returns-in-Ok-clause-again : goal.returns-in-Ok-clause-again
returns-in-Ok-clause-again g c =
    let before = g.S.LineStore.lines c.args.store.now in
    let after = g.S.LineStore.lines c.exchange_block.new.store in
    let from = c.min-first.result in
    let to = c.min-to.result in
    let new = map plain_line c.replace-new.result in
    let entered = c.len.result - (c.len-last.result - to) - from in
    let within : to ≤ length before = omega (arith, c.len-last.ensures.value) in
    let order : from ≤ to = omega (arith, c.saturating_add.ensures) in
    let counted : length new ≡ entered =
    omega (
      arith,
      c.len-last.ensures.value,
      c.len.ensures.value,
      ap length c.in-Ok.ensures.put,
      length-exchanged from to new before order within,
    ) in
    texts-back from to entered c.in-Ok.taken new after before order within counted c.in-Ok.ensures.taken
    c.in-Ok.ensures.put
