use Rattle.std.proofs.Common.{rules, ◌==◌, ◌&&◌, ◌||◌, refl}
use Rattle.std.proofs.lemmas.Fn.{filter_same}
use Rattle.ed_rules.specs.facts.Facts.{LineFact, Stretch, end}
use Rattle.ed_rules.specs.Following.{may_name}
use Rattle.ed_rules.proofs.line_facts.LineFacts.keep_spoken.Goals as goal

pub returns : goal.returns
returns c =
    let lines = filter_same _ (λ (f : LineFact). may_name c.args.marks.now f.name) _ (λ x b after called. search rules) _ _ c.retain.ensures.filtered in
    let clear =
    filter_same _
    (λ (s : Stretch). (s.after == end || may_name c.args.marks.now s.after) && (s.before == end || may_name c.args.marks.now s.before)) _
    (λ x b after called. search rules) _ _ c.retain-2.ensures.filtered in
    record { value = rw (lines, clear, ← c.self.view_is) refl }
