-- The block is the bytes of its lines, and these are those of the file.
use Rattle.std.proofs.Common.{◌≡◌, ◌∙◌, [], ◌∷◌, List, ℕ, ap, sym, refl, arith, length}
use Rattle.ed_base.specs.Lines.{lines_of, bytes_of}
use Rattle.ed_base.proofs.LineLemmas.{lines_of-completed}
use Rattle.ed_base.proofs.text.Text.of_file.Goals as goal

none : (lines : List (List ℕ)) → length lines ≡ 0 → [] ≡ lines
none [] e = refl
none (line ∷ lines) e = absurd (omega (arith, e))

pub returns-then-count-eq0 : goal.returns-then-count-eq0
returns-then-count-eq0 c =
    let lines = ap lines_of c.as_slice.ensures.value ∙ lines_of-completed c.args.bytes c.in_ok-bytes.bytes c.in_ok-bytes.ensures.value in
    record {
      value = c.new.ensures.value
          ∙ none (lines_of c.args.bytes) (ap length (sym lines) ∙ sym c.count_lines-count.ensures.exact ∙ c.if-count-eq0.true);
    }

pub invariant_of-result : goal.invariant_of-result
invariant_of-result c =
    let held = c.in_ok-new.ensures.ok in
    let written = c.in_ok-bytes.ensures.value in (
      ap (λ bs. bytes_of (lines_of bs)) held ∙ ap bytes_of (lines_of-completed c.args.bytes c.in_ok-bytes.bytes written) ∙ sym written ∙ sym held,
      c.count_lines-count.ensures.exact ∙ ap (λ bs. length (lines_of bs)) (c.as_slice.ensures.value ∙ sym held),
      omega (arith, c.if-count-eq0.false),
    )

pub returns : goal.returns
returns c = record { value = ap lines_of c.in_ok-new.ensures.ok ∙ lines_of-completed c.args.bytes c.in_ok-bytes.bytes c.in_ok-bytes.ensures.value }
