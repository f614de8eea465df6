-- As many lines are there as the loop passes, or they end before.
use Rattle.std.proofs.Common.{◌≡◌, [], ◌∙◌, ap, sym, subst, refl, arith, drop, length}
use Rattle.std.specs.Prelude.{◌↔◌, IsNone}
use Rattle.ed_base.specs.Lines.{lines_of}
use Rattle.line_store.proofs.Cuts.{to_end}
use Rattle.line_store.proofs.Filled.{lines-few}
use Rattle.line_store.proofs.shared.FileLines.fill_chunk.Goals as goal

pub returns-then-rest-lt-FULL : goal.returns-then-rest-lt-FULL
returns-then-rest-lt-FULL c =
    let e = c.self.inside in
    let file = c.as_slice.ensures.value ∙ c.deref.ensures in
    let same = sym c.self.view_is ∙ ap (drop e.next) (sym file) ∙ sym (to_end c.as_slice.result.now e.next) in
    record { value = (λ is. absurd cc, λ many. absurd (omega (arith, many, lines-few c.args.self.now, ap length same, c.if-rest-lt-FULL.true))) }

pub loop-i-init : goal.loop-i-init
loop-i-init c =
    let e = c.self.inside in
    let file = c.as_slice.ensures.value ∙ c.deref.ensures in
    let same = sym c.self.view_is ∙ ap (drop e.next) (sym file) ∙ sym (to_end c.as_slice.result.now e.next) in
    omega (arith, ap (λ t. length (lines_of t)) same)

pub loop-i-preserved : goal.loop-i-preserved
loop-i-preserved c = omega (arith, c.loop-i.invariant, ap length c.in-Some.ensures.first)

pub returns-in_default : goal.returns-in_default
returns-in_default c =
    let ended = subst (λ next. IsNone next ↔ (c.loop-i.rest.now ≡ [])) c.in_default.is c.next_line.ensures.ended in
    record { value = (λ is. absurd cc, λ many. absurd (omega (arith, many, c.loop-i.invariant, ap (λ t. length (lines_of t)) (ended.0 refl)))) }

pub returns : goal.returns
returns c = record { value = (λ is. omega (arith, c.loop-i.invariant), λ many. refl) }
