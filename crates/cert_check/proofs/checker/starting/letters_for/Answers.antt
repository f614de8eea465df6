use Rattle.std.proofs.Common.{◌-◌, arith, sym, ◌∙◌}
use Rattle.ed_syntax.specs.PublicScript.{script_value}
use Rattle.cert_check.specs.checker.Beginning.{letters_for}
use Rattle.cert_check.proofs.verdicts.Lettering.{letter-taken}
use Rattle.cert_check.proofs.checker.starting.letters_for.Goals as goal

pub loop-below-preserved-then-not-names : goal.loop-below-preserved-then-not-names
loop-below-preserved-then-not-names c =
    let inside = c.loop-below.invariant.inside in
    let low = c.loop-below-test.true in
    let some = c.if-more-gt0.true in
    record {
      inside = omega arith;
      rest = letter-taken (script_value c.args.script.now) c.loop-below.letters.items c.push.new.self.items
          (letters_for (script_value c.args.script.now) c.args.count) c.loop-below.below c.loop-below.more (c.loop-below.below - 1)
          (c.loop-below.more - 1) c.at-letter.result
          (omega arith) (omega arith) c.at-letter.ensures.value (sym c.names.ensures.value ∙ c.if-not-names.true)
          c.in_ok-push.ensures.items c.loop-below.invariant.rest;
    }
