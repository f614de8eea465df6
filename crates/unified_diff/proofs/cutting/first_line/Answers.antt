use Rattle.std.proofs.Common.{ap, arith, length}
use Rattle.unified_diff.proofs.CutLemmas.{full_lines-first}
use Rattle.unified_diff.proofs.cutting.first_line.Goals as goal

pub returns-clause-first : goal.returns-clause-first
returns-clause-first c =
    full_lines-first c.args.bytes.now c.in_ok-rest.field-0-0.now c.in_ok-rest.rest.now c.in_ok-rest.ensures.line
    (λ none. omega (arith, c.in_ok-rest.ensures.shorter, ap length none)) c.in_ok-rest.ensures.cut
