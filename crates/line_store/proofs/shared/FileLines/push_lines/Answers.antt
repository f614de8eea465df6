-- The lines that are written stand after those that were passed.
use Rattle.std.proofs.Common.{◌≡◌, ℕ, List, ◌++◌, ◌+◌, ◌-◌, ◌∙◌, ap, sym, subst, arith, drop, take}
use Rattle.std.specs.Result.{OnOk}
use Rattle.std.proofs.lemmas.List.{drop-take}
use Rattle.ed_base.specs.Lines.{bytes_of, lines_of}
use Rattle.ed_base.specs.Parts.{block}
use Rattle.line_store.proofs.shared.FileLines.push_lines.Goals as goal

pub returns : goal.returns
returns c =
    let from = c.args.from in
    let to = c.args.to in
    let all = lines_of c.args.self.now in
    let end : from + (to - from) ≡ to = omega (arith, c.requires.order) in
    let same : take (to - from) (lines_of c.skip.new.self) ≡ block from to all =
    ap (take (to - from)) (c.in_ok-skip.ensures.left ∙ ap (λ f. drop from (lines_of f)) c.in_ok-rest.ensures.value)
    ∙ sym (drop-take from (to - from) all)
    ∙ ap (λ n. drop from (take n all)) end in
    let P : List (List ℕ) → Type 0 = λ t. OnOk c.push_next.result (c.push_next.new.output ≡ c.args.output.now ++ bytes_of t) in
    record { appended = subst P same c.push_next.ensures.appended }
