-- The line stands after those that were passed.
use Rattle.std.proofs.Common.{◌≡◌, ◌∷◌, [], ◌∙◌, ap, sym, subst, refl, arith, drop, length}
use Rattle.std.specs.Prelude.{◌↔◌, IsNone, IfSome}
use Rattle.std.proofs.lemmas.List.{length-drop}
use Rattle.ed_base.specs.Buffer.{Line, plain_line}
use Rattle.ed_base.specs.Lines.{lines_of}
use Rattle.line_store.proofs.Uncut.{line-there}
use Rattle.line_store.proofs.shared.FileLines.plain_copy.Goals as goal

pub returns : goal.returns
returns c =
    let all = lines_of c.args.self.now in
    let rest = lines_of c.next_line.new.self in
    let line = c.in-Some.line in
    let first = subst (λ next. IfSome next (λ (l : Line). (l ≡ plain_line l.bytes) × (lines_of c.skip.new.self ≡ l.bytes ∷ rest))) c.in-Some.is c.in_ok-line.ensures.first in
    let is : drop c.args.i all ≡ line.bytes ∷ rest =
    ap (λ f. drop c.args.i (lines_of f)) (sym c.in_ok-rest.ensures.value) ∙ sym c.in_ok-skip.ensures.left ∙ first.1 in
    record { value = c.into_bare.ensures.value ∙ ap plain_line (line-there all c.args.i line.bytes rest is) }

pub unreachable-requires : goal.unreachable-requires
unreachable-requires c =
    let all = lines_of c.args.self.now in
    let ended = subst (λ next. IsNone next ↔ (c.skip.new.self ≡ [])) c.in-None.is c.in_ok-line.ensures.ended in
    omega (
      arith,
      c.requires.place,
      ap length c.in_ok-skip.ensures.left,
      ap (λ t. length (lines_of t)) (ended.0 refl),
      ap (λ f. length (drop c.args.i (lines_of f))) c.in_ok-rest.ensures.value,
      length-drop c.args.i all,
    )
