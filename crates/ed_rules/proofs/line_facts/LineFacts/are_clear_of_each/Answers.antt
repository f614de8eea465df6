use Rattle.std.proofs.Common.{◌≡◌, ℕ, ◌+◌, Bool, false, ◌&&◌, List, ◌∷◌, get_or, drop, sym, ap, ◌∙◌, arith, to_z, of_z, w64}
use Rattle.std.specs.List.{list_all}
use Rattle.std.proofs.lemmas.Int.{ints}
use Rattle.std.proofs.lemmas.List.{at_drop_all}
use Rattle.ed_rules.specs.facts.Facts.{point_at, is_clear}
use Rattle.ed_rules.proofs.Choosing.{next}
use Rattle.ed_rules.proofs.line_facts.LineFacts.are_clear_of_each.Goals as goal

pub returns-then-not-are_clear : goal.returns-then-not-are_clear
returns-then-not-are_clear c =
    let clear : List ℕ → Bool =
    λ (q : List ℕ). is_clear c.args.zone.now c.args.self.now (point_at c.args.x c.args.i) (point_at c.args.y c.args.j) q in
    let i : to_z w64 (of_z w64 c.args.i) ≡ c.args.i = omega (arith, ints) in
    let j : to_z w64 (of_z w64 c.args.j) ≡ c.args.j = omega (arith, ints) in
    let qs : List (List ℕ) = c.args.possible.now in
    let at : ℕ = c.loop-pattern.pattern-index in
    let q : List ℕ = c.pattern-item.result in
    let left : list_all clear qs ≡ list_all clear (drop at qs) = rw (i, j) at c.loop-pattern.invariant in
    let no : false ≡ clear c.as_slice.result.now = rw (i, j) at c.if-not-are_clear.ensures.value in
    let not_clear : clear (get_or qs at q) ≡ false = ap clear (sym c.pattern-item.is) ∙ ap clear (sym c.as_slice.ensures.value) ∙ sym no in
    let more : drop at qs ≡ get_or qs at q ∷ drop (at + 1) qs = next qs at q c.loop-pattern-test.true in
    record { value = sym (left ∙ ap (list_all clear) more ∙ ap (λ (b : Bool). b && list_all clear (drop (at + 1) qs)) not_clear) }

pub returns : goal.returns
returns c =
    let each : List (List ℕ) → Bool =
    list_all (λ (q : List ℕ). is_clear c.args.zone.now c.args.self.now (point_at c.args.x c.args.i) (point_at c.args.y c.args.j) q) in
    let i : to_z w64 (of_z w64 c.args.i) ≡ c.args.i = omega (arith, ints) in
    let j : to_z w64 (of_z w64 c.args.j) ≡ c.args.j = omega (arith, ints) in
    let left : each c.args.possible.now ≡ each (drop c.loop-pattern.pattern-index c.args.possible.now) = rw (i, j) at c.loop-pattern.invariant in
    record { value = sym (left ∙ at_drop_all each c.args.possible.now c.loop-pattern.pattern-index c.loop-pattern-test.false) }
