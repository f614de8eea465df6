use Rattle.std.proofs.Common.{rules, ◌==◌, ◌&&◌, not, refl}
use Rattle.std.proofs.lemmas.Fn.{filter_same}
use Rattle.ed_rules.specs.facts.Facts.{LineFact, Stretch}
use Rattle.ed_rules.proofs.line_facts.LineFacts.forget.Goals as goal

pub returns : goal.returns
returns c =
    let lines = filter_same _ (λ (f : LineFact). not (f.name == c.args.x)) _ (λ x b after called. search rules) _ _ c.retain.ensures.filtered in
    let clear =
    filter_same _ (λ (s : Stretch). not (s.after == c.args.x) && not (s.before == c.args.x)) _ (λ x b after called. search rules) _ _
    c.retain-2.ensures.filtered in
    record { value = rw (lines, clear, ← c.self.view_is) refl }
