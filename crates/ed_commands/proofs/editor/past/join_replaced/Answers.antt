-- What came in with the first change and went out with the later one isn't held.
use Rattle.std.proofs.Common.{◌≡◌, ◌≤◌, ◌+◌, ◌++◌, ◌∙◌, ap, subst, sym, arith, drop, length}
use Rattle.ed_base.specs.Parts.{exchanged}
use Rattle.ed_commands.specs.Earlier.{StandsIn, texts_before}
use Rattle.ed_commands.proofs.Kept.{texts-joined}
use Rattle.ed_commands.proofs.editor.past.join_replaced.Goals as goal

pub returns-in-Ok-clause-joined : goal.returns-in-Ok-clause-joined
returns-in-Ok-clause-joined c = λ now stands.
    let from = c.args.from in
    let passed = c.args.entered.now in
    let more = c.in-Replaced.more in
    let at : c.in-Replaced.place ≡ from = omega arith in
    let here = subst (λ k. StandsIn k now) c.in-Replaced.is stands in
    let within : from ≤ length now = omega (arith, here) in
    ap (λ t. exchanged from (from + more) t now) c.in-Ok.ensures.appended
    ∙ texts-joined from passed more c.args.removed.now c.in-Replaced.block now c.in-Ok.ensures.enough within
    ∙ ap (λ n. exchanged from (from + passed) c.args.removed.now (exchanged n (n + more) c.in-Replaced.block now)) (sym at)
    ∙ ap (λ k. exchanged from (from + passed) c.args.removed.now (texts_before k now)) (sym c.in-Replaced.is)
