-- The block is carried where it belongs, as far as there are lines, and may be carried back.
use Rattle.std.proofs.Common.{◌≡◌, ◌≤◌, ◌+◌, ◌-◌, ◌∙◌, ap, sym, length, min, arith}
use Rattle.std.proofs.lemmas.List.{length-map}
use Rattle.ed_base.specs.Buffer.{Line, texts}
use Rattle.ed_base.specs.Parts.{carried}
use Rattle.ed_commands.proofs.Blocks.{carried-back}
use Rattle.ed_commands.proofs.Changes.{moved-back}
use Rattle.ed_commands.proofs.Texts.{texts-carried}
use Rattle.ed_commands.proofs.Undoing.{carried-cut}
use Rattle.ed_commands.proofs.editor.undoing.carry_back.Goals as goal

pub returns-clause-texts : goal.returns-clause-texts
returns-clause-texts g c =
    let lines = g.S.LineStore.lines in
    let before = lines c.args.store.now in
    let start = c.min-start.result in
    let end = c.min-end.result in
    let target = c.min-target.result in
    let long : length (texts before) ≡ c.len-last.result = length-map before (λ (l : Line). l.bytes) ∙ sym c.len-last.ensures.value in
    let later = c.args.place.now + (c.args.to.now - c.args.from.now) in
    let i : start ≡ min c.args.place.now (length (texts before)) = omega (arith, long) in
    let j : end ≡ min later (length (texts before)) = omega (arith, long, c.len-last.type_inv, c.saturating_add.ensures, c.saturating_sub.ensures) in
    let p : target ≡ min c.args.from.now (length (texts before) - (end - start)) = omega (arith, long) in
    let order : start ≤ end = omega (arith, i, j) in
    let is = c.in_ok-carry.ensures.carried in
    ap texts is ∙ texts-carried start end target before ∙ carried-cut c.args.place.now later c.args.from.now start end target (texts before) i j order p

pub returns-clause-again : goal.returns-clause-again
returns-clause-again g c =
    let lines = g.S.LineStore.lines in
    let before = lines c.args.store.now in
    let after = lines c.carry.new.self in
    let start = c.min-start.result in
    let end = c.min-end.result in
    let target = c.min-target.result in
    let order : start ≤ end = omega (arith, c.len-last.type_inv, c.saturating_add.ensures) in
    let is = c.in_ok-carry.ensures.carried in
    moved-back target (target + (end - start)) start after before
    (ap (carried target (target + (end - start)) start) is
    ∙ carried-back start end target before order (omega (arith, c.len-last.ensures.value)) (omega (arith, c.len-last.ensures.value)))
