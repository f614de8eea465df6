use Rattle.std.proofs.Common.{◌≡◌, true, false, List, ℕ, ◌∙◌, sym, ap, arith}
use Rattle.ed_syntax.specs.meaning.Values.{matches}
use Rattle.landmarks.proofs.Firsts.{first-here, all-here, all-over}
use Rattle.landmarks.proofs.places.first_unmatched.Goals as goal

pub returns-then-not-is_matched : goal.returns-then-not-is_matched
returns-then-not-is_matched c =
    let fails : matches c.pattern-item.result c.args.line.now ≡ false = ap (λ (p : List ℕ). matches p c.args.line.now) (sym c.as_slice.ensures.value) ∙ sym c.in_ok-is_matched.ensures.value ∙ c.if-not-is_matched.true in
    record {
      value = first-here (λ (pattern : List ℕ). matches pattern c.args.line.now ≡ false) (λ (pattern : List ℕ). matches pattern c.args.line.now ≡ true) c.args.patterns.now
          c.loop-pattern.pattern-index c.pattern-item.result (omega arith) c.pattern-item.is c.loop-pattern.invariant fails;
    }

pub loop-pattern-preserved : goal.loop-pattern-preserved
loop-pattern-preserved c =
    let holds : matches c.pattern-item.result c.args.line.now ≡ true = ap (λ (p : List ℕ). matches p c.args.line.now) (sym c.as_slice.ensures.value) ∙ sym c.in_ok-is_matched.ensures.value ∙ c.if-not-is_matched.false in
    all-here (λ (pattern : List ℕ). matches pattern c.args.line.now ≡ true) c.args.patterns.now c.loop-pattern.pattern-index c.pattern-item.result (omega arith) c.pattern-item.is
    c.loop-pattern.invariant holds

pub returns : goal.returns
returns c = record {
  value = all-over (λ (pattern : List ℕ). matches pattern c.args.line.now ≡ true) c.args.patterns.now c.loop-pattern.pattern-index (omega arith) c.loop-pattern.invariant;
}
