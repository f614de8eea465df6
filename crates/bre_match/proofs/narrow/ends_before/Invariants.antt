use Rattle.std.proofs.Common.{◌≡◌, ℕ, ◌≤◌, List, [], false, flat_map}
use Rattle.std.specs.Prelude.{slice_get}
use Rattle.bre_parse.specs.Ways.{Way, has_byte_in}
use Rattle.bre_match.specs.Runs.{groups_at, shorter_ways, ways_of}
use Rattle.bre_match.specs.Narrowing.{weight}
use Rattle.bre_match.proofs.narrow.ends_before.Given as goal

abbrev pub invariant-loop-shorter : goal.invariant-loop-shorter
invariant-loop-shorter l =
    record {
      kept : (f : Way → List Way) → ((end : ℕ) → has_byte_in l.set.negated l.set.ranges.items (slice_get l.text end) ≡ false → f (end, groups_at l.run end) ≡ []) → flat_map f (shorter_ways l.end l.shorter (groups_at l.run)) ≡ flat_map f (ways_of l.run);
      fewer : (f : Way → ℕ) → weight f (shorter_ways l.end l.shorter (groups_at l.run)) ≤ weight f (ways_of l.run);
    }

abbrev pub decreases-loop-shorter : goal.decreases-loop-shorter
decreases-loop-shorter l = l.shorter
