use Rattle.std.proofs.Common.{◌≡◌, ◌*◌, ◌++◌}
use Rattle.zones.specs.KnownBounds.{known_bounds}
use Rattle.zones.specs.Written.{known_after}
use Rattle.zones.proofs.known_entries.known_entries.Given as goal

abbrev pub invariant-loop-p : goal.invariant-loop-p
invariant-loop-p l = l.entries.items ++ known_after (32 * l.p) l.table ≡ known_bounds l.table
