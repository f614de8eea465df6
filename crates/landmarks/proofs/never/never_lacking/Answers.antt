use Rattle.std.proofs.Common.{◌≡◌, false, List, ℕ, ◌∙◌, sym, ap, subst, arith}
use Rattle.std.specs.Prelude.{All}
use Rattle.bre_parse.specs.Always.{text_is_always}
use Rattle.ed_base.specs.Texts.{is_member}
use Rattle.landmarks.specs.Spelled.{CanLack, matched_by}
use Rattle.landmarks.proofs.Firsts.{all-here, all-over}
use Rattle.landmarks.proofs.never.never_lacking.Goals as goal

pub loop-pattern-preserved : goal.loop-pattern-preserved
loop-pattern-preserved c =
    let landmark = c.args.landmark.now in
    let item = c.pattern-item.result in
    let other : is_member (matched_by landmark) item ≡ false =
    ap (λ (p : List ℕ). is_member (matched_by landmark) p) (sym c.as_slice.ensures.value) ∙ sym c.is_matched-is_both.ensures.value ∙ c.if-is_both.false in
    let some : text_is_always item ≡ false =
    ap (λ (p : List ℕ). text_is_always p) (sym c.as_slice-in-loop-pattern.ensures.value) ∙ sym c.in_ok-is_each.ensures.value ∙ c.if-is_each.false in
    all-here (CanLack landmark) c.members-pattern-items.result.now c.loop-pattern.pattern-index item (omega arith) c.pattern-item.is
    c.loop-pattern.invariant (other, some)

pub returns : goal.returns
returns c = record {
  value = subst (All (CanLack c.args.landmark.now)) c.members-pattern-items.ensures.value
      (all-over (CanLack c.args.landmark.now) c.members-pattern-items.result.now c.loop-pattern.pattern-index (omega arith) c.loop-pattern.invariant);
}
