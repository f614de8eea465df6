-- The lines from i on stand where they are to be.
use Rattle.std.proofs.Common.{◌≡◌, ◌+◌, ◌-◌, ◌≤◌, length}
use Rattle.line_store.proofs.Swapped.{going_down}
use Rattle.line_store.proofs.swaps.carry_down.Given as goal

abbrev pub invariant-loop-i : goal.invariant-loop-i
invariant-loop-i g l =
    let items = g.L.BareLines.items in
    record {
      swapped : items l.lines ≡ going_down l.low l.middle l.high (items l.fn.lines) (l.i - l.low);
      count : length (items l.lines) ≡ length (items l.fn.lines);
      room : l.i ≤ g.L.BareLines.spare l.lines + l.low;
    }
