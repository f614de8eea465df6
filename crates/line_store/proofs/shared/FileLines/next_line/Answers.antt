-- The line is the front of the bytes that were to come, and those after it are left.
use Rattle.std.proofs.Common.{◌≡◌, ◌-◌, ◌∷◌, ◌∙◌, ap, sym, refl, length, drop}
use Rattle.ed_base.specs.Lines.{lines_of}
use Rattle.line_store.proofs.Cuts.{to_end, line-between, rest-after}
use Rattle.line_store.proofs.shared.FileLines.next_line.Goals as goal

pub returns-clause-first : goal.returns-clause-first
returns-clause-first c =
    let e = c.self.inside in
    let text = c.in-Some.text.now in
    let rest = c.in-Some.rest.now in
    let file = c.as_slice-bytes.ensures.value ∙ c.deref.ensures in
    let left = ap (drop e.next) (sym file) ∙ sym (to_end c.as_slice-bytes.result.now e.next) in
    let line : c.of.result.bytes ≡ text =
    ap (λ l. l.bytes) c.of.ensures.value
    ∙ ap (λ l. l.bytes) c.in_ok-line.ensures.value
    ∙ line-between e.block.value _ text rest e.next left c.in-Some.ensures.cut in
    let after : drop (length c.as_slice-bytes.result.now - length rest) e.block.value ≡ rest =
    ap (λ f. drop (length f - length rest) e.block.value) file
    ∙ rest-after e.block.value _ text rest e.next c.self.invariant left c.in-Some.ensures.cut in (
      rw (c.of.ensures.value, c.in_ok-line.ensures.value) refl,
      ap lines_of (sym c.self.view_is ∙ left) ∙ c.in-Some.ensures.first
          ∙ ap (λ t. t ∷ lines_of rest) (sym line)
          ∙ ap (λ r. c.of.result.bytes ∷ lines_of r) (sym after),
    )
