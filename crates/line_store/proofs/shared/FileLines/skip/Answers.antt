-- One line more is passed.
use Rattle.std.proofs.Common.{◌≡◌, ◌∷◌, [], ◌∙◌, ap, sym, subst, refl, arith, length}
use Rattle.std.specs.Prelude.{◌↔◌, IsNone, IfSome}
use Rattle.std.proofs.lemmas.List.{length-drop}
use Rattle.ed_base.specs.Buffer.{Line, plain_line}
use Rattle.ed_base.specs.Lines.{lines_of}
use Rattle.line_store.proofs.Uncut.{next-left}
use Rattle.line_store.proofs.shared.FileLines.skip.Goals as goal

pub unreachable-requires : goal.unreachable-requires
unreachable-requires c =
    let ended = subst (λ next. IsNone next ↔ (c.loop-i.self ≡ [])) c.in_default.is c.in_ok-_line.ensures.ended in
    omega (
      arith,
      c.requires.enough,
      ap length c.loop-i.invariant,
      ap (λ t. length (lines_of t)) (ended.0 refl),
      length-drop c.loop-i._i (lines_of c.args.self.now),
    )

pub loop-i-preserved : goal.loop-i-preserved
loop-i-preserved c =
    let rest = lines_of c.next_line.new.self in
    let first = subst (λ next. IfSome next (λ (l : Line). (l ≡ plain_line l.bytes) × (lines_of c.loop-i.self ≡ l.bytes ∷ rest))) c.in-Some.is c.in_ok-_line.ensures.first in
    next-left (lines_of c.args.self.now) c.loop-i._i c.in-Some._line.bytes rest (sym c.loop-i.invariant ∙ first.1)
