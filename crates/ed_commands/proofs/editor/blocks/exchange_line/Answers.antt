-- A line that comes in has no letters, and is all that comes.
use Rattle.std.proofs.Common.{◌<◌, ◌+◌, ◌∷◌, ◌∙◌, [], ap, sym, arith, length, map, remove}
use Rattle.ed_base.specs.Buffer.{plain_line}
use Rattle.ed_base.specs.Parts.{exchanged}
use Rattle.line_store.proofs.Own.{plain_shares_none}
use Rattle.ed_commands.proofs.Blocks.{set-one}
use Rattle.ed_commands.proofs.editor.blocks.exchange_line.Goals as goal

pub exchange-requires-clause-letters : goal.exchange-requires-clause-letters
exchange-requires-clause-letters g c =
    rw c.in-Ok.ensures.new (plain_shares_none c.in-Ok.line.bytes (remove (g.S.LineStore.lines c.args.store.now) c.args.from))

pub returns-in-Ok-exchange-clause-put : goal.returns-in-Ok-exchange-clause-put
returns-in-Ok-exchange-clause-put g c =
    let old = g.S.LineStore.lines c.args.store.now in
    let from = c.args.from in
    let line = c.in-Ok.line in
    let within : from < length old = omega (arith, c.requires.one, c.requires.last) in
    c.in-Ok-exchange.ensures.exchanged
    ∙ set-one from line old within
    ∙ ap (λ t. exchanged from (from + 1) (t ∷ []) old) c.in-Ok.ensures.new
    ∙ ap (λ t. exchanged from (from + 1) (map plain_line t) old) (sym c.in-Ok.ensures.line)
    ∙ ap (λ n. exchanged from n (map plain_line c.args.new) old) (sym c.requires.one)
