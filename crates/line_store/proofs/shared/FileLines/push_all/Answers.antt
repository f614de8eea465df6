-- The bytes to the end, and a newline if they lack it.
use Rattle.std.proofs.Common.{◌≡◌, ℕ, List, ◌++◌, ◌∷◌, ◌∙◌, [], ap, sym, subst, drop, length, append_assoc, slice_range}
use Rattle.std.specs.Bool.{OnTrue, OnFalse}
use Rattle.std.specs.Result.{OnOk}
use Rattle.ed_base.specs.Lines.{newline, bytes_of, lines_of}
use Rattle.line_store.proofs.Cuts.{to_end}
use Rattle.line_store.proofs.shared.FileLines.push_all.Goals as goal

pub returns-then-is_ended : goal.returns-then-is_ended
returns-then-is_ended c =
    let e = c.self.inside in
    let bytes = c.as_slice-bytes.result.now in
    let file : bytes ≡ e.block.value = c.as_slice-bytes.ensures.value ∙ c.deref.ensures in
    let rest = slice_range bytes e.next (length bytes) in
    let same : slice_range e.block.value e.next (length bytes) ≡ rest = ap (λ f. slice_range f e.next (length bytes)) (sym file) in
    let left : rest ≡ c.args.self.now = to_end bytes e.next ∙ ap (drop e.next) file ∙ c.self.view_is in
    let ended : bytes_of (lines_of rest) ≡ rest =
    subst (λ b. OnTrue b (bytes_of (lines_of rest) ≡ rest)) c.if-is_ended.true c.is_ended.ensures.ended in
    record {
      appended = c.in_ok-extend_from_block.ensures.appended
          ∙ ap (λ t. c.args.output.now ++ t) (same ∙ sym ended ∙ ap (λ t. bytes_of (lines_of t)) left);
    }

pub returns : goal.returns
returns c =
    let e = c.self.inside in
    let bytes = c.as_slice-bytes.result.now in
    let file : bytes ≡ e.block.value = c.as_slice-bytes.ensures.value ∙ c.deref.ensures in
    let rest = slice_range bytes e.next (length bytes) in
    let same : slice_range e.block.value e.next (length bytes) ≡ rest = ap (λ f. slice_range f e.next (length bytes)) (sym file) in
    let left : rest ≡ c.args.self.now = to_end bytes e.next ∙ ap (drop e.next) file ∙ c.self.view_is in
    let lacks : bytes_of (lines_of rest) ≡ rest ++ newline ∷ [] =
    subst (λ b. OnFalse b (bytes_of (lines_of rest) ≡ rest ++ newline ∷ [])) c.if-is_ended.false c.is_ended.ensures.lacks in
    let whole : c.extend_from_block.new.self ++ newline ∷ [] ≡ c.args.output.now ++ bytes_of (lines_of c.args.self.now) =
    ap (λ t. t ++ newline ∷ []) c.in_ok-extend_from_block.ensures.appended
    ∙ append_assoc c.args.output.now (slice_range e.block.value e.next (length bytes)) (newline ∷ [])
    ∙ ap (λ t. c.args.output.now ++ (t ++ newline ∷ [])) same
    ∙ ap (λ t. c.args.output.now ++ t) (sym lacks ∙ ap (λ t. bytes_of (lines_of t)) left) in
    let P : List ℕ → Type 0 = λ t. OnOk c.extend_from_slice.result (c.extend_from_slice.new.self ≡ t) in
    record { appended = subst P whole c.extend_from_slice.ensures.appended }
