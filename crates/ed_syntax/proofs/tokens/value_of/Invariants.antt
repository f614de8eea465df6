-- The digits so far spell the number, which has no more digits than they.
use Rattle.std.proofs.Common.{◌≡◌, ◌<◌, ◌^◌, take}
use Rattle.ed_syntax.specs.spelling.Characters.{value_of}
use Rattle.ed_syntax.proofs.tokens.value_of.Given as goal

abbrev pub invariant-digits : goal.invariant-digits
invariant-digits l = (l.value ≡ value_of (take l.digit-index l.digits)) × (l.value < 10 ^ l.digit-index)
