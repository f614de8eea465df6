use Rattle.std.proofs.Common.{List, ℕ, [], ◌∷◌, ◌++◌, sym, ap, ◌∙◌, append_assoc}
use Rattle.ed_base.specs.Lines.{newline}
use Rattle.ed_syntax.proofs.reader.JoinedLemmas.{last-read}
use Rattle.ed_syntax.proofs.globals.joined.Goals as goal

pub returns-clause-value : goal.returns-clause-value
returns-clause-value c =
    let before = c.lines.list in
    let line = c.lines.line.now in
    let later = c.lines.later.lines in
    ap (λ list. (list, later)) (c.in_ok-push-2.ensures.appended ∙ ap (λ list. list ++ newline ∷ []) c.in_ok-extend_from_slice-2.ensures.appended ∙ append_assoc before line (newline ∷ []))
    ∙ sym (ap (λ (r : List ℕ × List (List ℕ)). (before ++ r.0, r.1)) (last-read line later (sym c.goes_on.ensures.value ∙ c.lines-test.false)))
    ∙ c.lines.invariant.joined
