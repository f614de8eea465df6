-- The line stands after those that were passed.
use Rattle.std.proofs.Common.{◌≡◌, [], ◌∙◌, ap, sym, subst, refl, arith, drop, length}
use Rattle.std.specs.Prelude.{◌↔◌, IsNone}
use Rattle.std.proofs.lemmas.List.{length-drop}
use Rattle.ed_base.specs.Lines.{lines_of}
use Rattle.line_store.proofs.Cuts.{to_end}
use Rattle.line_store.proofs.Uncut.{next-left}
use Rattle.line_store.proofs.shared.FileLines.text.Goals as goal

pub loop-i-init : goal.loop-i-init
loop-i-init c =
    let e = c.self.inside in
    let file = c.as_slice.ensures.value ∙ c.deref.ensures in
    ap lines_of (sym (sym c.self.view_is ∙ ap (drop e.next) (sym file) ∙ sym (to_end c.as_slice.result.now e.next)))

pub loop-i-preserved : goal.loop-i-preserved
loop-i-preserved c =
    next-left (lines_of c.args.self.now) c.loop-i._i _ _ (sym c.loop-i.invariant ∙ c.in-Some.ensures.first)

pub unreachable-requires : goal.unreachable-requires
unreachable-requires c =
    let ended = subst (λ next. IsNone next ↔ (c.loop-i.rest.now ≡ [])) c.in_default.is c.next_line.ensures.ended in
    omega (
      arith,
      c.requires.place,
      ap length c.loop-i.invariant,
      ap (λ t. length (lines_of t)) (ended.0 refl),
      length-drop c.loop-i._i (lines_of c.args.self.now),
    )

pub unreachable-requires-in_default-next_line : goal.unreachable-requires-in_default-next_line
unreachable-requires-in_default-next_line c =
    let ended = subst (λ next. IsNone next ↔ (c.loop-i.rest.now ≡ [])) c.in_default-next_line.is c.next_line-2.ensures.ended in
    omega (
      arith,
      c.requires.place,
      ap length c.loop-i.invariant,
      ap (λ t. length (lines_of t)) (ended.0 refl),
      length-drop c.loop-i._i (lines_of c.args.self.now),
    )
