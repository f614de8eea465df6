-- No line is cut, and none is left.
use Rattle.std.proofs.Common.{◌++◌, [], ap, refl, length, arith}
use Rattle.line_store.proofs.cut_lines.CutLines.empty.Goals as goal

pub invariant_of-result : goal.invariant_of-result
invariant_of-result g c = (refl, omega (arith, ap length c.in_ok-cut.ensures.value))

pub returns : goal.returns
returns g c = record { value = ap (λ t. t ++ []) c.in_ok-cut.ensures.value }
