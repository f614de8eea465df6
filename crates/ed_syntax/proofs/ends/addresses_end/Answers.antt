use Rattle.std.proofs.Common.{◌≡◌, Some, None, arith}
use Rattle.std.proofs.lemmas.Grind.{common_steps}
use Rattle.ed_syntax.specs.PublicTypes.{addresses_value}
use Rattle.ed_syntax.specs.reading.Tokens.{addresses}
use Rattle.ed_syntax.proofs.reader.EndPlaces.{addresses-short, addresses-place, no_addresses}
use Rattle.ed_syntax.proofs.ends.addresses_end.Goals as goal

pub overflow_sub-place : goal.overflow_sub-place
overflow_sub-place c =
    let given = addresses_value c.in-Some.read.0 in
    let rest = c.in-Some.read.1.now in
    let read : addresses c.args.line.now ≡ Some (given, rest) = grind (arith, common_steps) in
    omega (arith, addresses-short c.args.line.now rest given read)

pub returns-in-Some : goal.returns-in-Some
returns-in-Some c =
    let given = addresses_value c.in-Some.read.0 in
    let rest = c.in-Some.read.1.now in
    let read : addresses c.args.line.now ≡ Some (given, rest) = grind (arith, common_steps) in
    record { value = addresses-place c.args.line.now rest given read }

pub returns-in-None : goal.returns-in-None
returns-in-None c =
    let read : addresses c.args.line.now ≡ None = grind (arith, common_steps) in
    record { value = no_addresses c.args.line.now read }
