-- Letters change no text that is written.
use Rattle.std.proofs.Common.{◌≡◌, ℕ, ◌∙◌, ◌++◌, List, ap, subst, length, arith}
use Rattle.std.specs.Result.{OnOk}
use Rattle.ed_base.specs.Lines.{AreLines, bytes_of}
use Rattle.ed_base.specs.Buffer.{texts}
use Rattle.ed_base.specs.Parts.{block}
use Rattle.line_store.specs.Cut.{all_lines}
use Rattle.line_store.specs.Kept.{lines_of}
use Rattle.line_store.proofs.Lettered.{length-lettered}
use Rattle.line_store.proofs.Taken.{block-lettered}
use Rattle.line_store.proofs.kept.StoreLineStore.push_lines.Goals as goal

pub push_lines-requires-clause-last : goal.push_lines-requires-clause-last
push_lines-requires-clause-last g c =
    omega (
      arith,
      c.requires.last,
      length-lettered c.self.inside.marks 0 (all_lines c.self.inside.lines),
      ap (λ v. length (lines_of v)) c.self.view_is,
    )

pub returns-clause-appended : goal.returns-clause-appended
returns-clause-appended g c =
    let from = c.args.from in
    let to = c.args.to in
    let same = block-lettered from to c.self.inside.marks (all_lines c.self.inside.lines)
    ∙ ap (λ v. texts (block from to (lines_of v))) c.self.view_is in
    let P : List (List ℕ) → Type 0 = λ t. OnOk c.push_lines.result (c.push_lines.new.output ≡ c.args.output.now ++ bytes_of t) in
    subst P same c.push_lines.ensures.appended

pub returns-clause-lines : goal.returns-clause-lines
returns-clause-lines g c =
    let from = c.args.from in
    let to = c.args.to in
    let same = block-lettered from to c.self.inside.marks (all_lines c.self.inside.lines)
    ∙ ap (λ v. texts (block from to (lines_of v))) c.self.view_is in
    let P : List (List ℕ) → Type 0 = λ t. OnOk c.push_lines.result (AreLines t) in
    subst P same c.push_lines.ensures.lines
