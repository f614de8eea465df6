use Rattle.landmarks.proofs.Firsts.{if-ok, if-err, only-ok}
use Rattle.std.proofs.Common.{arith}
use Rattle.landmarks.proofs.places.place_of.Goals as goal

pub if_far_enough-requires-clause-sought : goal.if_far_enough-requires-clause-sought
if_far_enough-requires-clause-sought c = if-ok _ c.in-Ok.place _ _ c.in-Ok.is c.in_ok-place.ensures.value

pub if_far_enough-requires-clause-inside : goal.if_far_enough-requires-clause-inside
if_far_enough-requires-clause-inside c =
    let within = only-ok _ c.in-Ok.place _ c.in-Ok.is c.in_ok-place.ensures.inside in
    omega (arith, within, c.requires.last)

pub returns-in-Err : goal.returns-in-Err
returns-in-Err c = record { value = if-err _ c.in-Err.why _ _ c.in-Err.is c.in_ok-place.ensures.value }
