-- The lines before i stand where they are to be.
use Rattle.std.proofs.Common.{◌≡◌, ◌+◌, ◌-◌, ◌≤◌, length}
use Rattle.line_store.proofs.Swapped.{going_up}
use Rattle.line_store.proofs.swaps.carry_up.Given as goal

abbrev pub invariant-loop-i : goal.invariant-loop-i
invariant-loop-i g l =
    let items = g.L.BareLines.items in
    record {
      swapped : items l.lines ≡ going_up l.low l.middle l.high (items l.fn.lines) (l.i - l.middle);
      count : length (items l.lines) ≡ length (items l.fn.lines);
      room : l.high ≤ g.L.BareLines.spare l.lines + l.i;
    }
