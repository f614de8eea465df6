-- The lines so far, before those that are joined to them, are the whole list; no line's number is skipped.
use Rattle.std.proofs.Common.{◌≡◌, ◌+◌, ◌≤◌, ◌++◌, length}
use Rattle.ed_syntax.specs.reading.ReadGlobals.{joined}
use Rattle.ed_syntax.proofs.globals.joined.Given as goal

abbrev pub invariant-lines : goal.invariant-lines
invariant-lines l = record {
  joined : (l.list ++ (joined l.line l.later.lines).0, (joined l.line l.later.lines).1) ≡ joined l.bytes l.fn.later.lines;
  number : l.later.number + length l.later.lines ≡ l.fn.later.number + length l.fn.later.lines;
  later : length l.later.lines ≤ length l.fn.later.lines;
}

abbrev pub decreases-lines : goal.decreases-lines
decreases-lines l = length l.later.lines
