use Rattle.std.proofs.Common.{rules, ◌==◌, ◌<ℤ◌, pos, not, refl, arith}
use Rattle.std.proofs.lemmas.Int.{ints}
use Rattle.std.proofs.lemmas.Fn.{filter_same}
use Rattle.ed_rules.specs.facts.Facts.{LineFact, Stretch}
use Rattle.ed_rules.specs.facts.FoundLines.{known_as}
use Rattle.ed_rules.proofs.facts.AssignedFacts.{moved-down, moved-up}
use Rattle.ed_rules.proofs.line_facts.LineFacts.move_by.Goals as goal

pub returns-then-by-gt0 : goal.returns-then-by-gt0
returns-then-by-gt0 c =
    let lines = filter_same _ (λ (f : LineFact). not (f.name == c.args.x)) _ (λ x b after called. search rules) _ _ c.retain.ensures.filtered in
    let clear =
    filter_same _ (λ (s : Stretch). not (s.before == c.args.x)) _ (λ x b after called. search rules) _ _
    c.retain-then-by-gt0.ensures.filtered in
    let down : pos 0 <ℤ c.args.by = omega (arith, ints) in
    record { value = λ zone. rw (lines, clear, moved-down c.args.x c.args.by (known_as zone c.args.self.now) down, ← c.self.view_is) refl }

pub returns-else-by-gt0 : goal.returns-else-by-gt0
returns-else-by-gt0 c =
    let lines = filter_same _ (λ (f : LineFact). not (f.name == c.args.x)) _ (λ x b after called. search rules) _ _ c.retain.ensures.filtered in
    let clear =
    filter_same _ (λ (s : Stretch). not (s.after == c.args.x)) _ (λ x b after called. search rules) _ _
    c.retain-else-by-gt0.ensures.filtered in
    let up : c.args.by <ℤ pos 0 = omega (arith, ints) in
    record { value = λ zone. rw (lines, clear, moved-up c.args.x c.args.by (known_as zone c.args.self.now) up, ← c.self.view_is) refl }
