-- One line more is written.
use Rattle.std.proofs.Common.{◌≡◌, ◌<◌, ◌++◌, ◌∷◌, [], ◌∙◌, ap, sym, subst, refl, arith, drop, take, length, append_assoc}
use Rattle.std.specs.Prelude.{◌↔◌, IsNone, IfSome}
use Rattle.std.proofs.lemmas.List.{length-drop}
use Rattle.ed_base.specs.Buffer.{Line, plain_line}
use Rattle.ed_base.specs.Lines.{newline, bytes_of, lines_of}
use Rattle.line_store.proofs.Uncut.{next-left, pushed-more}
use Rattle.line_store.proofs.shared.FileLines.push_next.Goals as goal

pub unreachable-requires : goal.unreachable-requires
unreachable-requires c =
    let ended = subst (λ next. IsNone next ↔ (c.loop-i.self ≡ [])) c.in_default.is c.in_ok-line.ensures.ended in
    omega (
      arith,
      c.requires.enough,
      ap length c.loop-i.invariant.left,
      ap (λ t. length (lines_of t)) (ended.0 refl),
      length-drop c.loop-i._i (lines_of c.args.self.now),
    )

pub loop-i-preserved : goal.loop-i-preserved
loop-i-preserved c =
    let all = lines_of c.args.self.now in
    let i = c.loop-i._i in
    let line = c.in-Some.line in
    let before = c.args.output.now in
    let rest = lines_of c.next_line.new.self in
    let first = subst (λ next. IfSome next (λ (l : Line). (l ≡ plain_line l.bytes) × (lines_of c.loop-i.self ≡ l.bytes ∷ rest))) c.in-Some.is c.in_ok-line.ensures.first in
    let is : drop i all ≡ line.bytes ∷ rest = sym c.loop-i.invariant.left ∙ first.1 in
    let within : i < length all = omega (arith, ap length is, length-drop i all) in
    record {
      left = next-left all i line.bytes rest is;
      written = c.in_ok-push_to.ensures.appended
          ∙ ap (λ (l : Line). c.loop-i.output ++ (l.bytes ++ newline ∷ [])) c.into_bare.ensures.value
          ∙ ap (λ t. t ++ (line.bytes ++ newline ∷ [])) c.loop-i.invariant.written
          ∙ append_assoc before (bytes_of (take i all)) (line.bytes ++ newline ∷ [])
          ∙ ap (λ t. before ++ t) (pushed-more all i line.bytes rest within is);
    }
