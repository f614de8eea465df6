-- No line that was passed has the flag.
use Rattle.std.proofs.Common.{◌≡◌, ℕ, ◌-◌, ◌<◌, ◌≤◌, [], false, length, get_or}
use Rattle.ed_base.specs.Buffer.{plain_line}
use Rattle.line_store.proofs.bare_lines.BareLines.first_flagged.Given as goal

abbrev pub invariant-loop-next : goal.invariant-loop-next
invariant-loop-next g l =
    let lines = g.Self.BareLines.items l.self in
    record {
      low : l.from ≤ l.next;
      high : l.next ≤ length lines;
      none : (i : ℕ) → l.from ≤ i → i < l.next → (get_or lines i (plain_line [])).flag ≡ false;
    }

abbrev pub decreases-loop-next : goal.decreases-loop-next
decreases-loop-next g l = l.count - l.next
