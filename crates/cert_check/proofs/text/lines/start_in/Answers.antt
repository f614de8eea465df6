use Rattle.std.proofs.Common.{◌≡◌, ℕ, true, false, ◌&&◌, Option, ◌∙◌, sym, ap}
use Rattle.std.specs.Prelude.{codes}
use Rattle.std.proofs.lemmas.Bool.{and_parts}
use Rattle.ed_rules.specs.LineBounds.{is_few, is_limit, is_within}
use Rattle.cert_check.proofs.texts.ReadLines.{bounds-line-same}
use Rattle.cert_check.proofs.text.lines.start_in.Goals as goal

pub returns-then-not-in_order : goal.returns-then-not-in_order
returns-then-not-in_order c = record {
  exact = λ v h e.
      let both = and_parts (is_few v.0 && is_limit v.1) (is_within v.0 v.1) h in
      let same = bounds-line-same (codes "start") v.0 c.in_ok-low.low v.1 c.in_ok-low.high both.0 c.in_ok-low.ensures.exact.1 (e ∙ sym c.in_ok-low.ensures.exact.0) in
      let refused : false ≡ true =
      c.if-not-in_order.ensures.value ∙ ap (λ (n : ℕ). is_within n c.in_ok-low.high) (sym same.0) ∙ ap (λ (m : Option ℕ). is_within v.0 m) (sym same.1) ∙ both.1 in
      absurd cc;
}
