use Rattle.std.proofs.Common.{◌≡◌, ◌++◌, take}
use Rattle.bre_match.specs.Spreads.{AreKnown}
use Rattle.bre_match.proofs.kinds.push_new.Given as goal

abbrev pub invariant-loop-way : goal.invariant-loop-way
invariant-loop-way l = record {
  put : l.all.items ≡ l.fn.all.items ++ l.added.items;
  known : AreKnown l.asked l.all.items (take l.way-index l.found);
}
