use Rattle.std.proofs.Common.{rules, refl}
use Rattle.std.proofs.lemmas.Fn.{filter_same}
use Rattle.ed_rules.specs.facts.FactOrder.{says_line, says_clear}
use Rattle.ed_rules.proofs.line_facts.LineFacts.keep_both.Goals as goal

pub returns : goal.returns
returns c =
    let lines = filter_same _ (says_line c.args.zone.now c.args.other.now) _ (λ x b after called. search rules) _ _ c.retain.ensures.filtered in
    let clear = filter_same _ (says_clear c.args.zone.now c.args.other.now) _ (λ x b after called. search rules) _ _ c.retain-2.ensures.filtered in
    record { value = rw (lines, clear, ← c.self.view_is) refl }
