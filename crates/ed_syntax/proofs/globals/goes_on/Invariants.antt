-- So far an odd number of backslashes stands there, or not.
use Rattle.std.proofs.Common.{◌≡◌, take}
use Rattle.ed_syntax.specs.spelling.Characters.{goes_on}
use Rattle.ed_syntax.proofs.globals.goes_on.Given as goal

abbrev pub invariant-bytes : goal.invariant-bytes
invariant-bytes l = l.odd ≡ goes_on (take l.byte-index l.line)
