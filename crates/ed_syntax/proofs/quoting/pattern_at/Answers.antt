use Rattle.std.proofs.Common.{◌≡◌, Some, None, arith}
use Rattle.std.proofs.lemmas.Grind.{common_steps}
use Rattle.ed_syntax.specs.reading.Tokens.{pattern_at}
use Rattle.ed_syntax.proofs.reader.FrontLemmas.{no_pattern}
use Rattle.ed_syntax.proofs.reader.QuotingLemmas.{pattern_at-sound}
use Rattle.ed_syntax.proofs.quoting.pattern_at.Goals as goal

pub returns-in-Some-2-clause-spelled : goal.returns-in-Some-2-clause-spelled
returns-in-Some-2-clause-spelled c =
    let delimiter = c.args.delimiter in
    let bytes = c.args.bytes.now in
    let pattern = c.in-Some-2.pattern in
    let rest = c.in-Some.rest.now in
    let read : pattern_at delimiter bytes ≡ Some (pattern, rest) = grind (arith, common_steps) in
    λ plain. pattern_at-sound delimiter bytes (pattern, rest) read

pub returns-in-None-2-clause-spelled : goal.returns-in-None-2-clause-spelled
returns-in-None-2-clause-spelled c =
    let read : pattern_at c.args.delimiter c.args.bytes.now ≡ None = grind (arith, common_steps) in
    no_pattern c.args.delimiter c.args.bytes.now read

pub returns-in-None-clause-spelled : goal.returns-in-None-clause-spelled
returns-in-None-clause-spelled c =
    let read : pattern_at c.args.delimiter c.args.bytes.now ≡ None = grind (arith, common_steps) in
    no_pattern c.args.delimiter c.args.bytes.now read
