use Rattle.std.proofs.Common.{rules, ◌≡◌, ◌<◌, List, length, get_or, Bool, true, pos, sym, subst, ◌∙◌, arith, to_z, of_z, w64}
use Rattle.std.proofs.lemmas.Bool.{or_right}
use Rattle.std.proofs.lemmas.Int.{ints}
use Rattle.std.specs.List.{list_any}
use Rattle.std.proofs.lemmas.List.Folds.{list_any_at}
use Rattle.ed_rules.specs.facts.Facts.{Stretch, point_at, le, spans}
use Rattle.ed_rules.proofs.line_facts.LineFacts.are_clear.Goals as goal

pub returns-then-spans : goal.returns-then-spans
returns-then-spans c =
    let test : Stretch → Bool = spans c.args.zone.now (point_at c.args.x c.args.i) (point_at c.args.y c.args.j) c.args.pattern.now in
    let i : to_z w64 (of_z w64 c.args.i) ≡ c.args.i = omega (arith, ints) in
    let j : to_z w64 (of_z w64 c.args.j) ≡ c.args.j = omega (arith, ints) in
    let s : c.spans.result ≡ test c.stretch-item.result = rw (i, j) at c.spans.ensures.value in
    let e : test c.stretch-item.result ≡ true = sym s ∙ c.if-spans.true in
    let clear : List Stretch = c.args.self.now.clear in
    let below : c.loop-stretch.stretch-index < length clear = search rules in
    let is : c.stretch-item.result ≡ get_or clear c.loop-stretch.stretch-index c.stretch-item.result = search rules in
    record {
      value = sym (or_right (le c.args.zone.now (point_at c.args.y c.args.j) (point_at c.args.x c.args.i) (pos 1)) (list_any test clear)
          (list_any_at test clear c.loop-stretch.stretch-index c.stretch-item.result below (subst (λ (t : Stretch). test t ≡ true) is e)));
    }
