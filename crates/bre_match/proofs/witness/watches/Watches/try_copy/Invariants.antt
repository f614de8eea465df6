use Rattle.std.proofs.Common.{◌≡◌, take}
use Rattle.bre_match.proofs.witness.watches.Watches.try_copy.Given as goal

abbrev pub invariant-loop-watch : goal.invariant-loop-watch
invariant-loop-watch l = l.each.items ≡ take l.watch-index l.self
