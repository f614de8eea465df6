use Rattle.std.proofs.Common.{◌≡◌, ◌∙◌, ◌≢◌, ◌+ℤ◌, ◌-ℤ◌, arith, to_z, of_z, w64}
use Rattle.std.proofs.lemmas.Int.{ints}
use Rattle.ed_rules.specs.facts.Facts.{point_at}
use Rattle.ed_rules.proofs.facts.FactsTold.{le-same, le-other}
use Rattle.ed_rules.proofs.line_facts.known.is_at_most.Goals as goal

pub returns-then-place : goal.returns-then-place
returns-then-place c =
    let one : c.args.x ≡ c.args.y = omega arith in
    let e : to_z w64 (of_z w64 c.distance-d.result) ≡ (c.args.c +ℤ c.args.j) -ℤ c.args.i = omega (arith, ints, c.distance-d.ensures.value) in
    record { value = le-same c.args.zone.now (point_at c.args.x c.args.i) (point_at c.args.y c.args.j) c.args.c (to_z w64 (of_z w64 c.distance-d.result)) e one }

pub returns-else-place : goal.returns-else-place
returns-else-place c =
    let two : c.args.x ≢ c.args.y = λ e. c.if-place.false (omega arith) in
    let e : to_z w64 (of_z w64 c.distance-d.result) ≡ (c.args.c +ℤ c.args.j) -ℤ c.args.i = omega (arith, ints, c.distance-d.ensures.value) in
    record { value = c.is_known.ensures.value ∙ le-other c.args.zone.now (point_at c.args.x c.args.i) (point_at c.args.y c.args.j) c.args.c (to_z w64 (of_z w64 c.distance-d.result)) e two }
