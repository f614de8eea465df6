-- All went well at the paths that the loop has passed.
use Rattle.std.proofs.Common.{◌≡◌, ◌≤◌, ◌+◌, ◌++◌, true, map, take}
use Rattle.whole.specs.Deeds.{Deed}
use Rattle.whole.proofs.ending.put_in_order.Given as goal

abbrev pub invariant-paths : goal.invariant-paths
invariant-paths g l = record {
  count : l.count ≡ l.path-index;
  log : g.D.Drafting.log l.drafts ≡ g.D.Drafting.log l.fn.drafts ++ map (λ p. Deed.Put p true) (take l.path-index l.paths);
  room : g.D.Drafting.room l.fn.drafts ≤ g.D.Drafting.room l.drafts + l.path-index;
}
