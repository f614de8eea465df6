use Rattle.std.proofs.Common.{◌≡◌, false}
use Rattle.zones.specs.Reach.{is_known_with}
use Rattle.zones.proofs.reach.is_known_with.Given as goal

abbrev pub invariant-loop-q : goal.invariant-loop-q
invariant-loop-q l = is_known_with l.table l.p l.q ≡ false
