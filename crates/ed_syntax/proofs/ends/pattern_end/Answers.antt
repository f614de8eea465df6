use Rattle.std.proofs.Common.{◌≡◌, length, Some, None, arith}
use Rattle.std.proofs.lemmas.Grind.{common_steps}
use Rattle.ed_syntax.specs.reading.Tokens.{quoted}
use Rattle.ed_syntax.proofs.reader.EndPlaces.{quoted-short, quoted-place, no_quoted}
use Rattle.ed_syntax.proofs.ends.pattern_end.Goals as goal

pub overflow_sub-place : goal.overflow_sub-place
overflow_sub-place c =
    let delimiter = c.args.delimiter in
    let bytes = c.args.bytes.now in
    let text = c.in-Some.read.0 in
    let rest = c.in-Some.read.1.now in
    let read : quoted (length bytes) delimiter bytes ≡ Some (text, rest) = grind (arith, common_steps) in
    omega (arith, quoted-short delimiter bytes rest text read)

pub returns-in-Some : goal.returns-in-Some
returns-in-Some c =
    let delimiter = c.args.delimiter in
    let bytes = c.args.bytes.now in
    let text = c.in-Some.read.0 in
    let rest = c.in-Some.read.1.now in
    let read : quoted (length bytes) delimiter bytes ≡ Some (text, rest) = grind (arith, common_steps) in
    record { value = λ plain. quoted-place delimiter bytes rest text read }

pub returns-in-None : goal.returns-in-None
returns-in-None c =
    let bytes = c.args.bytes.now in
    let read : quoted (length bytes) c.args.delimiter bytes ≡ None = grind (arith, common_steps) in
    record { value = no_quoted c.args.delimiter bytes read }
