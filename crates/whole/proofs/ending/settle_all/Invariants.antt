-- What was put at the paths that the loop has passed was settled.
use Rattle.std.proofs.Common.{◌≡◌, ◌≤◌, ◌+◌, ◌++◌, map, take}
use Rattle.whole.specs.Deeds.{Deed}
use Rattle.whole.proofs.ending.settle_all.Given as goal

abbrev pub invariant-paths : goal.invariant-paths
invariant-paths g l = record {
  log : g.D.Drafting.log l.drafts ≡ g.D.Drafting.log l.fn.drafts ++ map (λ p. Deed.Settle p) (take l.path-index l.paths);
  room : g.D.Drafting.room l.fn.drafts ≤ g.D.Drafting.room l.drafts + l.path-index;
}
