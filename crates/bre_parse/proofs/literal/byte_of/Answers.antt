use Rattle.std.proofs.Common.{◌≡◌, true, sym, ◌∙◌, arith}
use Rattle.bre_parse.specs.Tree.{in_set}
use Rattle.bre_parse.proofs.Literals.{second_found}
use Rattle.bre_parse.proofs.literal.byte_of.Goals as goal

pub returns-then-is_some : goal.returns-then-is_some
returns-then-is_some c =
    let set = c.args.set.now in
    let member : in_set set.negated set.ranges.items c.loop-number.number ≡ true = sym c.contains.ensures.value ∙ c.if-contains.true in
    record { value = second_found c.loop-number.number 256 set.negated set.ranges.items c.loop-number.found (omega arith) c.loop-number.invariant member (sym c.is_some.ensures ∙ c.if-is_some.true) }
