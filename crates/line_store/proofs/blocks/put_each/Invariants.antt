-- As many lines are put as the loop has passed.
use Rattle.std.proofs.Common.{◌≡◌, ◌≤◌, ◌+◌, length, map}
use Rattle.ed_base.specs.Buffer.{plain_line, texts}
use Rattle.ed_base.specs.Parts.{inserted}
use Rattle.line_store.proofs.blocks.put_each.Given as goal

abbrev pub invariant-loop-line : goal.invariant-loop-line
invariant-loop-line g l =
    let items = g.L.BareLines.items in
    record {
      put : items l.lines ≡ inserted l.at (map plain_line (texts l.yielded)) (items l.fn.lines);
      place : length (items l.lines) ≡ l.at + (length l.yielded + l.after);
      room : length l.fn.list.items ≤ g.L.BareLines.spare l.lines + length l.yielded;
    }
