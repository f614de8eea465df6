-- Letters change no text that is copied.
use Rattle.std.proofs.Common.{◌≡◌, ℕ, ◌∙◌, List, ap, subst, length, arith}
use Rattle.std.specs.Result.{IfOk}
use Rattle.ed_base.specs.Buffer.{texts}
use Rattle.ed_base.specs.Parts.{block}
use Rattle.line_store.specs.Cut.{all_lines}
use Rattle.line_store.specs.Kept.{lines_of}
use Rattle.line_store.proofs.Lettered.{length-lettered}
use Rattle.line_store.proofs.Taken.{block-lettered}
use Rattle.line_store.proofs.kept.StoreLineStore.copy_block.Goals as goal

pub copy_block-requires-clause-last : goal.copy_block-requires-clause-last
copy_block-requires-clause-last g c =
    omega (
      arith,
      c.requires.last,
      length-lettered c.self.inside.marks 0 (all_lines c.self.inside.lines),
      ap (λ v. length (lines_of v)) c.self.view_is,
    )

pub returns : goal.returns
returns g c =
    let from = c.args.from in
    let to = c.args.to in
    let same = block-lettered from to c.self.inside.marks (all_lines c.self.inside.lines)
    ∙ ap (λ v. texts (block from to (lines_of v))) c.self.view_is in
    let P : List (List ℕ) → Type 0 = λ t. IfOk c.copy_block.result (λ copies. copies ≡ t) in
    record { value = subst P same c.copy_block.ensures.value }
