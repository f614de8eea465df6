use Rattle.std.proofs.Common.{◌≡◌, ℕ, Bool, List, drop, sym, ◌∙◌, arith, to_z, of_z, w64}
use Rattle.std.specs.List.{list_any}
use Rattle.std.proofs.lemmas.Int.{ints}
use Rattle.std.proofs.lemmas.List.{at_drop_all}
use Rattle.ed_rules.specs.facts.Facts.{point_at, is_clear}
use Rattle.ed_rules.proofs.line_facts.LineFacts.are_clear_of_any.Goals as goal

pub returns : goal.returns
returns c =
    let any : List (List ℕ) → Bool =
    list_any (λ (q : List ℕ). is_clear c.args.zone.now c.args.self.now (point_at c.args.x c.args.i) (point_at c.args.y c.args.j) q) in
    let i : to_z w64 (of_z w64 c.args.i) ≡ c.args.i = omega (arith, ints) in
    let j : to_z w64 (of_z w64 c.args.j) ≡ c.args.j = omega (arith, ints) in
    let left : any c.args.same.now ≡ any (drop c.loop-pattern.pattern-index c.args.same.now) = rw (i, j) at c.loop-pattern.invariant in
    record { value = sym (left ∙ at_drop_all any c.args.same.now c.loop-pattern.pattern-index c.loop-pattern-test.false) }
