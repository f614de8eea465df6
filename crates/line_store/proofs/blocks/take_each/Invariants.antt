-- The lines from i on are taken, the last one first.
use Rattle.std.proofs.Common.{◌≡◌, ◌+◌, ◌≤◌, ◌++◌, drop, map, take, reverse}
use Rattle.std.specs.Prelude.{vec_len, vec_capacity}
use Rattle.ed_base.specs.Buffer.{plain_line, texts}
use Rattle.line_store.proofs.blocks.take_each.Given as goal

abbrev pub invariant-loop-i : goal.invariant-loop-i
invariant-loop-i g l =
    let items = g.L.BareLines.items in
    record {
      left : items l.lines ≡ take l.i (items l.fn.lines) ++ drop l.fn.to (items l.fn.lines);
      taken : reverse l.taken.items ≡ drop l.i (map plain_line (texts (take l.fn.to (items l.fn.lines))));
      least : l.fn.from ≤ l.i;
      count : vec_len l.taken + l.i ≡ l.fn.to;
      room : l.fn.to ≤ vec_capacity l.taken + l.fn.from;
    }
