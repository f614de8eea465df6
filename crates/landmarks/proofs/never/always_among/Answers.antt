-- A pattern that isn't seen to match each line goes to those before it.
use Rattle.std.proofs.Common.{◌≡◌, false, ◌∙◌, sym, ap, List, ℕ, arith}
use Rattle.bre_parse.specs.Always.{text_is_always}
use Rattle.landmarks.specs.Spelled.{MayDiffer}
use Rattle.landmarks.proofs.Firsts.{all-here, all-over}
use Rattle.landmarks.proofs.never.always_among.Goals as goal

pub loop-pattern-preserved : goal.loop-pattern-preserved
loop-pattern-preserved c =
    let item = c.pattern-item.result in
    let some : text_is_always item ≡ false =
    ap (λ (p : List ℕ). text_is_always p) (sym c.as_slice.ensures.value) ∙ sym c.in_ok-is_each.ensures.value ∙ c.if-is_each.false in
    all-here MayDiffer c.args.patterns.now c.loop-pattern.pattern-index item (omega arith) c.pattern-item.is c.loop-pattern.invariant some

pub returns : goal.returns
returns c = record {
  value = all-over MayDiffer c.args.patterns.now c.loop-pattern.pattern-index (omega arith) c.loop-pattern.invariant;
}
