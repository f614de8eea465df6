-- The changes from i on were taken back, and stand as those that would do them again, the last one first.
use Rattle.std.proofs.Common.{◌≡◌, ◌≤◌, drop, take, length, reverse}
use Rattle.ed_base.specs.Buffer.{texts}
use Rattle.ed_commands.specs.Earlier.{rewound}
use Rattle.ed_commands.proofs.editor.undoing.rewind_from.Given as goal

abbrev pub invariant-loop-i : goal.invariant-loop-i
invariant-loop-i g l =
    let lines = g.S.LineStore.lines in
    let old = l.fn.changes.items in
    record {
      back : texts (lines l.store) ≡ rewound (drop l.i old) (texts (lines l.fn.store));
      again : rewound (reverse (drop l.i l.changes.items)) (texts (lines l.store)) ≡ texts (lines l.fn.store);
      earlier : take l.i l.changes.items ≡ take l.i old;
      least : l.since ≤ l.i;
      most : l.i ≤ length old;
      count : length l.changes.items ≡ length old;
    }
