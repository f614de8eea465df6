use Rattle.std.proofs.Common.{All, take, drop}
use Rattle.zones.specs.Bound.{IsKept}
use Rattle.zones.specs.Written.{Rise, IsKnownBound}
use Rattle.zones.proofs.kept_zone.are_known.Given as goal

abbrev pub invariant-loop-kept : goal.invariant-loop-kept
invariant-loop-kept l = record {
  each : All IsKnownBound (take l.kept-index l.entries);
  kept : All (λ b. IsKept b.bound) (take l.kept-index l.entries);
  rise : Rise l.from (drop l.kept-index l.entries) → Rise 0 l.entries;
  rest : Rise 0 l.entries → Rise l.from (drop l.kept-index l.entries);
}
