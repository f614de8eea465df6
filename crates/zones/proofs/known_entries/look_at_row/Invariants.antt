use Rattle.std.proofs.Common.{◌≡◌, ◌*◌, ◌++◌}
use Rattle.zones.specs.Written.{known_after}
use Rattle.zones.proofs.known_entries.look_at_row.Given as goal

abbrev pub invariant-loop-place : goal.invariant-loop-place
invariant-loop-place l = l.entries.items ++ known_after l.place l.table ≡ l.fn.entries.items ++ known_after (32 * l.p) l.table

abbrev pub invariant-loop-place-2 : goal.invariant-loop-place-2
invariant-loop-place-2 l = l.entries.items ++ known_after l.place l.table ≡ l.fn.entries.items ++ known_after (32 * l.p) l.table
