use Rattle.std.proofs.Common.{◌≡◌, ◌+◌, ◌-◌, Some, refl, arith}
use Rattle.ed_syntax.specs.reading.Reading.{script_of}
use Rattle.hints.specs.Passing.{last_of}
use Rattle.hints.proofs.Places.{all-back, all-past}
use Rattle.hints.proofs.passing.gets_past_all.Goals as goal

pub returns-clause-sound : goal.returns-clause-sound
returns-clause-sound c =
    let is : c.in-Some.command ≡ (c.args.place.command + c.args.count) - 1 = rw c.in-Some.is at c.last_number.ensures.value in
    all-back (script_of c.args.script.now) c.args.start.now (last_of c.args.place c.args.count) (record { command = c.in-Some.command; inner = Some c.unwrap_or.result }) 18446744073709551615
    c.unwrap_or.result c.gets_past.result (omega (arith, is)) refl c.unwrap_or.ensures refl c.gets_past.ensures.exact

pub returns-clause-all : goal.returns-clause-all
returns-clause-all c =
    let same : c.args.count ≡ 1 → c.in-Some.command ≡ c.args.place.command =
    λ one. let is = c.in-Some.is in let first = c.last_number.ensures.one one in cc in
    all-past (script_of c.args.script.now) c.args.start.now c.args.place c.in-Some.command 18446744073709551615 c.unwrap_or.result c.args.count c.gets_past.result
    same c.unwrap_or.ensures c.gets_past.ensures.exact
