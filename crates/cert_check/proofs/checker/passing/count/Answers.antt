use Rattle.std.proofs.Common.{arith, refl, sym, ap, ◌∙◌}
use Rattle.std.specs.Prelude.{is_some}
use Rattle.ed_syntax.specs.meaning.Verbs.{Takes}
use Rattle.cert_check.proofs.verdicts.Counting.{count-on, count-off, count-end}
use Rattle.cert_check.proofs.checker.passing.count.Goals as goal

pub loop-index-init : goal.loop-index-init
loop-index-init c = record { number = omega arith; quit = refl }

pub loop-index-preserved : goal.loop-index-preserved
loop-index-preserved c =
    count-on c.args.commands.now c.loop-index.index c.index-commands-index.result (omega arith) c.index-commands-index.is
    (sym (ap (λ (t : Takes). is_some t.ends) c.takes.ensures.value) ∙ sym c.is_some.ensures ∙ c.if-is_some.false) c.loop-index.invariant

pub returns-then-is_some : goal.returns-then-is_some
returns-then-is_some c =
    let last = count-off c.args.commands.now c.loop-index.index c.index-commands-index.result (omega arith) c.index-commands-index.is
    (sym (ap (λ (t : Takes). is_some t.ends) c.takes.ensures.value) ∙ sym c.is_some.ensures ∙ c.if-is_some.true) c.loop-index.invariant in
    record { number = last.0; quit = last.1 }

pub returns : goal.returns
returns c =
    let all = count-end c.args.commands.now c.loop-index.index (omega arith) c.loop-index.invariant in
    record { number = all.0; quit = all.1 }
