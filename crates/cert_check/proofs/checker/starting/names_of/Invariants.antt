-- the letters that are left give the other names
use Rattle.std.proofs.Common.{◌≡◌, ◌++◌, drop, map}
use Rattle.zones.specs.Name.{mark}
use Rattle.cert_check.proofs.checker.starting.names_of.Given as goal

abbrev pub invariant-loop-letter : goal.invariant-loop-letter
invariant-loop-letter l = l.names.items ++ map mark (drop l.letter-index l.letters) ≡ map mark l.letters
