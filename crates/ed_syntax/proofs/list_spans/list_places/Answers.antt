-- What stands after the pattern isn't longer than the line.
use Rattle.std.proofs.Common.{◌≡◌, Some, arith}
use Rattle.std.proofs.lemmas.Grind.{common_steps}
use Rattle.ed_syntax.specs.ListStarts.{list_start}
use Rattle.ed_syntax.proofs.reader.ListStartLemmas.{list_start-short}
use Rattle.ed_syntax.proofs.list_spans.list_places.Goals as goal

pub overflow_sub-line : goal.overflow_sub-line
overflow_sub-line c =
    let start : list_start c.in-Some.line.now ≡ Some c.in-Some-2.own.now = grind (arith, common_steps) in
    omega (arith, list_start-short c.in-Some.line.now c.in-Some-2.own.now start)
