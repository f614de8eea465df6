-- What is taken back is the line that stood there.
use Rattle.std.proofs.Common.{◌≡◌, ◌≤◌, ◌+◌, ◌∙◌, ap, arith, length}
use Rattle.std.proofs.lemmas.List.{length-map}
use Rattle.ed_base.specs.Buffer.{Line, texts}
use Rattle.ed_commands.specs.Earlier.{earlier_of}
use Rattle.ed_commands.proofs.Blocks.{length-exchanged}
use Rattle.ed_commands.proofs.Changes.{texts-back}
use Rattle.ed_commands.proofs.editor.rewriting.rewrite_line.Goals as goal

pub returns-clause-kept : goal.returns-clause-kept
returns-clause-kept g c =
    let lines = g.S.LineStore.lines c.args.store.now in
    let after = g.S.LineStore.lines c.exchange.new.store in
    let place = c.args.place in
    let new = c.args.lines.items in
    let entered = c.len-entered.result in
    let removed = c.in_ok-removed.removed in
    let counted : length new ≡ entered = omega (arith, c.args.lines.ok.0, c.len-entered.ensures) in
    let stands : place ≤ length (texts after) =
    omega (arith, length-map after (λ (l : Line). l.bytes), ap length c.in_ok-removed.ensures.put, length-exchanged place (place + 1) new lines (omega arith) (omega (arith, c.requires.place)), c.requires.place) in
    c.add.ensures.kept (texts after) stands
    ∙ ap (earlier_of c.reserve.new.self) (texts-back place (place + 1) entered removed new after lines (omega arith) (omega (arith, c.requires.place)) counted c.in_ok-removed.ensures.taken c.in_ok-removed.ensures.put)
    ∙ c.reserve.ensures.unchanged (texts lines)

pub returns-clause-counted : goal.returns-clause-counted
returns-clause-counted g c =
    let lines = g.S.LineStore.lines c.args.store.now in
    let place = c.args.place in
    omega (arith, ap length c.in_ok-removed.ensures.put, length-exchanged place (place + 1) c.args.lines.items lines (omega arith) (omega (arith, c.requires.place)))
