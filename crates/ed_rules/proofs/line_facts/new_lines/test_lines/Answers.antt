use Rattle.std.proofs.Common.{◌≡◌, ℕ, Bool, false, List, IfOk, sym, subst, ◌∙◌}
use Rattle.std.specs.Option.{is_some}
use Rattle.bre_parse.specs.Bre.{bre_tree}
use Rattle.bre_parse.specs.Match.{match_from}
use Rattle.ed_base.specs.Lines.{lines_of}
use Rattle.ed_rules.specs.declared.line_facts.new_lines.Tested.{Tested}
use Rattle.ed_rules.proofs.facts.EditCalls.{tested-entered}
use Rattle.ed_rules.proofs.matches.Watched.{matched-none, matched-by}
use Rattle.ed_rules.proofs.line_facts.new_lines.test_lines.Goals as goal

pub returns-in-Ok : goal.returns-in-Ok
returns-in-Ok c =
    let test : List ℕ → Bool = λ (line : List ℕ). is_some (match_from (bre_tree c.in-Ok.bre) line 0) in
    let same = tested-entered c.args.pattern.now test (matched-by c.args.pattern.now (bre_tree c.in-Ok.bre) c.in-Ok.ensures.value) (lines_of c.args.text.now) in
    record { value = subst (λ (t : Tested). IfOk c.test_each.result (λ known. known ≡ t)) (sym same) c.test_each.ensures.value }

pub returns-in_default : goal.returns-in_default
returns-in_default c =
    let unread = c.in-Err.ensures.first_fault c.in_default.not-Memory in
    record {
      value = c.test_none.ensures.value
          ∙ sym (tested-entered c.args.pattern.now (λ (line : List ℕ). false) (matched-none c.args.pattern.now c.in-Err.fault unread) (lines_of c.args.text.now));
    }
